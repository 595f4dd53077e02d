use Rattle.std.proofs.Common.{◌≡◌, ◌<◌, cond, [], ◌∷◌, ◌++◌, sym, refl, ap, ◌∙◌, subst, arith}
use Rattle.table.specs.Model.{content}
use Rattle.table.specs.Rules.{task_count}
use Rattle.theory.specs.Course.{releases_at}
use Rattle.theory.specs.Machine.{release}
use Rattle.dispatch.specs.Represents.{Answered}
use Rattle.rehearsal.proofs.Steps.{guarded, released_none, released_more}
use Rattle.rehearsal.proofs.playing.Playing.release_told.Goals as goal

pub loop-task-init : goal.loop-task-init
loop-task-init g c =
    let at = c.args.self.now in
    let s = content at.table.now in
    (refl, refl, refl, released_none s (g.P.Policy.meaning at.run.policy s) at.course.now.task at.course.now.offset c.args.time at.run.station)

pub loop-task-preserved : goal.loop-task-preserved
loop-task-preserved g c =
    let at = c.args.self.now in
    let s = content at.table.now in
    let m = g.P.Policy.meaning in
    let p = at.run.policy in
    let o = m p s in
    let inv = c.loop-task.invariant in
    let now = c.loop-task.self in
    let d = now.run.station in
    let e = c.release_if.new.run.station in
    let n = c.loop-task.task in
    let told = c.releases-told.result in
    let same : m now.run.policy (content d.table) ≡ o = ap (λ q. m q (content d.table)) inv.0 ∙ ap (λ u. m p (content u)) (sym now.own ∙ inv.1) in
    let inside : n < task_count (content now.table.now) = omega (arith, c.count-task-end.ensures, ap (λ t. task_count (content t)) inv.1) in
    let is = c.releases-told.ensures ∙ guarded n (task_count (content now.table.now)) _ _ inside (now.along.told n c.args.time) ∙ (λ k. releases_at (content (inv.1 k)) (m (inv.0 k) (content (inv.1 k))) (inv.2 k).task (inv.2 k).offset n c.args.time) in (
      c.release_if.ensures.policy ∙ inv.0,
      inv.1,
      inv.2,
      released_more s o at.course.now.task at.course.now.offset c.args.time at.run.station d e n told is inv.3
          (λ cs. subst (λ q. Answered q d cs → Answered q e (cs ++ cond told (release n ∷ []) [])) same (c.release_if.ensures.answered cs)),
    )
