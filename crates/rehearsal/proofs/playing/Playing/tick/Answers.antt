use Rattle.std.proofs.Common.{◌≡◌, false, sym, ap, ◌∙◌, subst}
use Rattle.table.specs.Model.{content}
use Rattle.theory.specs.Machine.{tick}
use Rattle.dispatch.specs.Replies.{tick_told}
use Rattle.dispatch.specs.Represents.{Answers}
use Rattle.rehearsal.specs.OneTick.{with_releases}
use Rattle.rehearsal.proofs.Steps.{answers_in}
use Rattle.rehearsal.proofs.playing.Playing.tick.Goals as goal

pub returns : goal.returns
returns g c =
    let at = c.args.self.now in
    let s = content at.table.now in
    let m = g.P.Policy.meaning in
    let p = at.run.policy in
    let o = m p s in
    let told = c.release_told.ensures in
    let d = c.release_told.new.self.run in
    let e = c.tick.new.self in
    let given = tick_told c.tick.result in
    let same_table = sym c.release_told.new.self.own ∙ told.table in
    let same : m d.policy (content d.station.table) ≡ o = ap (λ q. m q (content d.station.table)) told.policy ∙ ap (λ u. m p (content u)) same_table in
    record {
      policy = c.tick.ensures.policy ∙ told.policy;
      table = told.table;
      course = told.course;
      answered = λ calls h.
          let pair = answers_in s o d.station e.station (tick false) given (ap content same_table) (subst (λ q. Answers q d.station e.station (tick false) given) same c.tick.ensures.answered) (with_releases s o at.course.now c.args.time calls) (told.answered calls h) in
          record { played = pair.0; tells = pair.1 };
    }
