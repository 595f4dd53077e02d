use Rattle.std.proofs.Common.{◌≡◌, ◌+◌, ◌<◌, None, sym, refl, ◌∙◌, subst, arith}
use Rattle.table.specs.Model.{content}
use Rattle.table.proofs.Tables.{table_checked}
use Rattle.policy.proofs.Lawfulness.{table_laws}
use Rattle.theory.specs.Course.{course_until}
use Rattle.theory.specs.Machine.{play, start, last_time}
use Rattle.dispatch.specs.Replies.{tick_told}
use Rattle.dispatch.specs.Represents.{Answered}
use Rattle.rehearsal.specs.Due.{DueFirst}
use Rattle.rehearsal.specs.FirstMiss.{FirstMiss, MissedFirst}
use Rattle.rehearsal.specs.OneTick.{OneTick}
use Rattle.rehearsal.proofs.Firsts.{clean_start, answered_next, clean_more, first_found}
use Rattle.rehearsal.proofs.seeking.seek.Goals as goal

pub loop-time-init : goal.loop-time-init
loop-time-init g c =
    let s = content c.args.table.now in
    let m = g.P.Policy.meaning in
    let new = c.new-playing.ensures in
    let run = c.new-playing.result.run in
    let course = c.args.course.now in
    (refl, new.table, new.course, clean_start s (m run.policy s) course.task course.offset run.station (subst (λ q. Answered (m q s) run.station _) (sym new.policy) new.answered))

pub returns-in-Some : goal.returns-in-Some
returns-in-Some g c =
    let s = content c.args.table.now in
    let m = g.P.Policy.meaning in
    let met = g.met.P.Policy in
    let p = c.new-playing.result.run.policy in
    let o = m p s in
    let checked = table_checked c.args.table.now in
    let laws = table_laws g.P.Policy.meaning met.total met.transitive met.earlier met.range met.rule p c.args.table.now in
    let inv = c.loop-time.invariant in
    let course = c.args.course.now in
    let d = c.loop-time.playing.run.station in
    let e = c.tick.new.self.run.station in
    let t = c.loop-time.time in
    let calls = course_until s o course.task course.offset t in
    let ticked = subst (λ (b : Type 0). b) (λ k. Answered (m (inv.0 k) (content (inv.1 k))) d calls → OneTick (content (inv.1 k)) (m (inv.0 k) (content (inv.1 k))) (inv.2 k) t calls e (tick_told c.tick.result)) (c.tick.ensures.answered calls) inv.3.played in
    let next = course_until s o course.task course.offset (t + 1) in
    let played = answered_next s o course.task course.offset t e ticked.played in
    let due =
    let policy = c.tick.ensures.policy ∙ inv.0 in
    let table = c.tick.ensures.table ∙ inv.1 in
    subst (λ (b : Type 0). b) (λ k. Answered (m (policy k) (content (table k))) e next → DueFirst (content (table k)) (play (content (table k)) (m (policy k) (content (table k))) start next) (t + 1) c.first_due.result) (c.first_due.ensures next) played in
    let early : t < last_time = omega (arith, c.requires.end) in
    let inside : t < c.args.end = omega arith in
    subst (λ q. FirstMiss s (m q s) course.task course.offset c.args.end c.in-Some.miss) c.new-playing.ensures.policy
    (first_found s o checked laws course.task course.offset t early inv.3.none c.args.end c.in-Some.miss inside (subst (λ r. DueFirst s (play s o start next) (t + 1) r) c.in-Some.is due))

pub loop-time-preserved : goal.loop-time-preserved
loop-time-preserved g c =
    let s = content c.args.table.now in
    let m = g.P.Policy.meaning in
    let met = g.met.P.Policy in
    let p = c.new-playing.result.run.policy in
    let o = m p s in
    let checked = table_checked c.args.table.now in
    let laws = table_laws g.P.Policy.meaning met.total met.transitive met.earlier met.range met.rule p c.args.table.now in
    let inv = c.loop-time.invariant in
    let course = c.args.course.now in
    let d = c.loop-time.playing.run.station in
    let e = c.tick.new.self.run.station in
    let t = c.loop-time.time in
    let calls = course_until s o course.task course.offset t in
    let ticked = subst (λ (b : Type 0). b) (λ k. Answered (m (inv.0 k) (content (inv.1 k))) d calls → OneTick (content (inv.1 k)) (m (inv.0 k) (content (inv.1 k))) (inv.2 k) t calls e (tick_told c.tick.result)) (c.tick.ensures.answered calls) inv.3.played in
    let next = course_until s o course.task course.offset (t + 1) in
    let played = answered_next s o course.task course.offset t e ticked.played in
    let due =
    let policy = c.tick.ensures.policy ∙ inv.0 in
    let table = c.tick.ensures.table ∙ inv.1 in
    subst (λ (b : Type 0). b) (λ k. Answered (m (policy k) (content (table k))) e next → DueFirst (content (table k)) (play (content (table k)) (m (policy k) (content (table k))) start next) (t + 1) c.first_due.result) (c.first_due.ensures next) played in
    let early : t < last_time = omega (arith, c.requires.end) in (
      c.tick.ensures.policy ∙ inv.0,
      c.tick.ensures.table ∙ inv.1,
      c.tick.ensures.course ∙ inv.2,
      clean_more s o checked laws course.task course.offset t early inv.3.none e played (subst (λ r. DueFirst s (play s o start next) (t + 1) r) c.in_default.is due),
    )

pub returns : goal.returns
returns g c =
    let s = content c.args.table.now in
    let m = g.P.Policy.meaning in
    let course = c.args.course.now in
    let all : c.loop-time.time ≡ c.args.end = omega arith in
    let o = m c.new-playing.result.run.policy s in
    subst (λ q. MissedFirst s (m q s) course.task course.offset c.args.end None) c.new-playing.ensures.policy
    (subst (λ n. MissedFirst s o course.task course.offset n None) all c.loop-time.invariant.3.none)
