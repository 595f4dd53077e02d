use Rattle.std.proofs.Common.{◌≡◌, ◌+◌, sym, refl, ap, ◌∙◌, subst, arith}
use Rattle.table.specs.Model.{content}
use Rattle.theory.specs.Course.{course_until}
use Rattle.theory.specs.Machine.{answers, start}
use Rattle.dispatch.specs.Replies.{tick_told}
use Rattle.dispatch.specs.Represents.{Answered}
use Rattle.rehearsal.specs.OneTick.{OneTick}
use Rattle.rehearsal.specs.Seen.{seen, told_by}
use Rattle.rehearsal.proofs.Steps.{shown_none, shown_more}
use Rattle.rehearsal.proofs.playing.play.Goals as goal

pub loop-time-init : goal.loop-time-init
loop-time-init g c =
    let s = content c.args.table.now in
    let m = g.P.Policy.meaning in
    let new = c.new-playing.ensures in
    let run = c.new-playing.result.run in
    let course = c.args.course.now in
    (refl, new.table, new.course, shown_none s (m run.policy s) course.task course.offset (course.lead.ticks + course.offset) run.station (subst (λ q. Answered (m q s) run.station _) (sym new.policy) new.answered))

pub loop-time-preserved : goal.loop-time-preserved
loop-time-preserved g c =
    let s = content c.args.table.now in
    let m = g.P.Policy.meaning in
    let o = m c.new-playing.result.run.policy s in
    let inv = c.loop-time.invariant in
    let course = c.args.course.now in
    let d = c.loop-time.playing.run.station in
    let e = c.tick-ticked.new.self.run.station in
    let t = c.loop-time.time in
    let calls = course_until s o course.task course.offset t in
    let given = tick_told c.tick-ticked.result in
    let ticked = subst (λ (b : Type 0). b) (λ k. Answered (m (inv.0 k) (content (inv.1 k))) d calls → OneTick (content (inv.1 k)) (m (inv.0 k) (content (inv.1 k))) (inv.2 k) t calls e given) (c.tick-ticked.ensures.answered calls) inv.3.played in
    let arrival = course.lead.ticks + course.offset in
    let tells = c.response_told.ensures ∙ ap (λ k. told_by k c.arrival.result given) c.task.ensures ∙ ap (λ z. told_by course.task z given) c.arrival.ensures ∙ ap (told_by course.task arrival) ticked.tells in (
      c.tick-ticked.ensures.policy ∙ inv.0,
      c.tick-ticked.ensures.table ∙ inv.1,
      c.tick-ticked.ensures.course ∙ inv.2,
      shown_more s o course.task course.offset arrival t d e c.loop-time.seen c.response_told.result c.or-seen.result inv.3 ticked.played tells c.or-seen.ensures,
    )

pub returns : goal.returns
returns g c =
    let s = content c.args.table.now in
    let m = g.P.Policy.meaning in
    let course = c.args.course.now in
    let all : c.loop-time.time ≡ c.args.end = omega arith in
    let o = m c.new-playing.result.run.policy s in
    c.loop-time.invariant.3.saw
    ∙ ap (λ n. seen course.task (course.lead.ticks + course.offset) (answers s o start (course_until s o course.task course.offset n))) all
    ∙ ap (λ q. seen course.task (course.lead.ticks + course.offset) (answers s (m q s) start (course_until s (m q s) course.task course.offset c.args.end))) c.new-playing.ensures.policy
