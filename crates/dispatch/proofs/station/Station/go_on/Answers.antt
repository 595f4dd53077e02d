use Rattle.std.proofs.Common.{◌≡◌, false, ap, ◌∙◌, arith}
use Rattle.table.specs.Content.{sporadic}
use Rattle.table.specs.Model.{content}
use Rattle.table.specs.Sporadic.{Sporadic}
use Rattle.table.proofs.Ranges.{task_ranges}
use Rattle.table.proofs.Tables.{table_checked}
use Rattle.dispatch.specs.Lines.{board, line_summary}
use Rattle.dispatch.specs.Summaries.{Summary}
use Rattle.dispatch.specs.declared.replies.Ticked.TheVariants as ticked
use Rattle.dispatch.proofs.Movings.{front_release, moves_from}
use Rattle.dispatch.proofs.station.Station.go_on.Goals as goal

pub go_on-requires : goal.go_on-requires
go_on-requires c =
    let d = c.args.self.now in
    let f = c.args.front in
    let r = task_ranges (content d.table) (table_checked d.table) f.task c.requires.front.inside in
    let cost = ap (λ (t : Sporadic). t.cost) c.requires.front.task in
    record { some = c.requires.front.some; short = omega (arith, cost, r.cost_high, c.requires.short) }

pub returns : goal.returns
returns c = record {
  table = c.turn.ensures.table ∙ c.put.ensures.table;
  time = c.turn.ensures.time ∙ c.put.ensures.time;
  moves = λ p ps w.
      let d = c.args.self.now in
      let f = c.args.front in
      let at : f.release ≡ p.release = front_release (board d.lines f.task).waiting p ps f.release w c.requires.front.first in
      moves_from d c.put.new.self c.turn.new.self.stage (board c.turn.new.self.lines) f false p ps (line_summary c.go_on.result) _ c.requires.front w c.put.ensures
      (c.go_on.ensures p ps (sporadic f.known) d.time (ap (λ (u : Summary). u.waiting) c.requires.front.line ∙ w))
      (λ k. ap (λ ls. board ls k) c.turn.ensures.lines)
      c.turn.ensures.stage
      (ap (λ r. ticked.Ran f.task r) at);
}
