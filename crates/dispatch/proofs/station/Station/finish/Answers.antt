use Rattle.std.proofs.Common.{◌≡◌, ◌-◌, true, ap, ◌∙◌, arith}
use Rattle.dispatch.specs.Lines.{board, line_summary}
use Rattle.dispatch.specs.Summaries.{Summary}
use Rattle.dispatch.specs.declared.replies.Ticked.TheVariants as ticked
use Rattle.dispatch.proofs.Movings.{front_release, moves_from}
use Rattle.dispatch.proofs.station.Station.finish.Goals as goal

pub returns : goal.returns
returns c = record {
  table = c.turn.ensures.table ∙ c.put.ensures.table;
  time = c.turn.ensures.time ∙ c.put.ensures.time;
  moves = λ p ps w.
      let d = c.args.self.now in
      let f = c.args.front in
      let at : f.release ≡ p.release = front_release (board d.lines f.task).waiting p ps f.release w c.requires.first in
      let long : c.saturating_sub-response.result ≡ d.time - p.release = omega arith in
      moves_from d c.put.new.self c.turn.new.self.stage (board c.turn.new.self.lines) f true p ps (line_summary c.finish.result) _ c.requires w c.put.ensures
      (c.finish.ensures p ps (ap (λ (u : Summary). u.waiting) c.requires.line ∙ w))
      (λ k. ap (λ ls. board ls k) c.turn.ensures.lines)
      c.turn.ensures.stage
      (λ k. ticked.Finished f.task (at k) (long k));
}
