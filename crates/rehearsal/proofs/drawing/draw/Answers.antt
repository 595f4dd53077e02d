use Rattle.std.proofs.Common.{◌≡◌, ◌<◌, ◌≤◌, length, sym, refl, ap, ◌∙◌, subst, arith}
use Rattle.table.specs.Model.{content}
use Rattle.table.specs.Rules.{task_count}
use Rattle.theory.specs.Course.{course_until, releases_at}
use Rattle.courses.specs.OneCourse.{CourseOf}
use Rattle.dispatch.specs.Replies.{tick_told}
use Rattle.dispatch.specs.Represents.{Answered}
use Rattle.rehearsal.specs.OneTick.{OneTick}
use Rattle.rehearsal.specs.Timeline.{mark, runs, timeline}
use Rattle.rehearsal.proofs.Lines.{drawn_none, drawn_more, drawn_all}
use Rattle.rehearsal.proofs.Steps.{guarded}
use Rattle.rehearsal.proofs.drawing.draw.Goals as goal

pub loop-at-init : goal.loop-at-init
loop-at-init g c =
    let s = content c.args.table.now in
    let m = g.P.Policy.meaning in
    let new = c.new-playing.ensures in
    let run = c.new-playing.result.run in
    let course = c.args.course.now in
    (refl, new.table, new.course, drawn_none s (m run.policy s) course.task course.offset c.args.job run.station c.args.marks.now (subst (λ q. Answered (m q s) run.station _) (sym new.policy) new.answered))

pub loop-at-preserved : goal.loop-at-preserved
loop-at-preserved g c =
    let s = content c.args.table.now in
    let m = g.P.Policy.meaning in
    let o = m c.new-playing.result.run.policy s in
    let inv = c.loop-at.invariant in
    let course = c.args.course.now in
    let job = c.args.job in
    let d = c.loop-at.playing.run.station in
    let e = c.tick-ticked.new.self.run.station in
    let t = c.loop-at.at in
    let calls = course_until s o course.task course.offset t in
    let given = tick_told c.tick-ticked.result in
    let ticked = subst (λ (b : Type 0). b) (λ k. Answered (m (inv.0 k) (content (inv.1 k))) d calls → OneTick (content (inv.1 k)) (m (inv.0 k) (content (inv.1 k))) (inv.2 k) t calls e given) (c.tick-ticked.ensures.answered calls) inv.3.played in
    let at_order = subst (λ q. CourseOf s (m q s) course) (sym c.new-playing.ensures.policy) c.requires.course in
    let releases_is : c.releases-releases.result ≡ releases_at s o course.task course.offset job t = c.releases-releases.ensures ∙ guarded job (task_count s) _ _ c.requires.job (at_order.told job t) in
    let here : t < length c.loop-at.marks = omega (arith, c.loop-at-test.true, c.loop-at.auto.marks) in (
      c.tick-ticked.ensures.policy ∙ inv.0,
      c.tick-ticked.ensures.table ∙ inv.1,
      c.tick-ticked.ensures.course ∙ inv.2,
      drawn_more s o course.task course.offset job t d e c.loop-at.marks c.mark_of.result here inv.3 ticked.played
          (c.mark_of.ensures ∙ ap (λ b. mark b c.runs_now.result) releases_is ∙ ap (mark (releases_at s o course.task course.offset job t)) (c.runs_now.ensures ∙ ap (runs job) ticked.tells)),
    )

pub returns : goal.returns
returns g c =
    let s = content c.args.table.now in
    let m = g.P.Policy.meaning in
    let course = c.args.course.now in
    let job = c.args.job in
    let o = m c.new-playing.result.run.policy s in
    let all : c.loop-at.at ≡ length c.args.marks.now = omega arith in
    let end : length c.loop-at.marks ≤ c.loop-at.at = omega (arith, c.loop-at.auto.marks) in
    drawn_all s o course.task course.offset job c.loop-at.at c.loop-at.playing.run.station c.loop-at.marks end c.loop-at.invariant.3
    ∙ ap (timeline s o course.task course.offset job) all
    ∙ ap (λ q. timeline s (m q s) course.task course.offset job (length c.args.marks.now)) c.new-playing.ensures.policy
