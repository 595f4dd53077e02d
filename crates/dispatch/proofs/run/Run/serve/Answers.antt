use Rattle.std.proofs.Common.{true, false, refl, subst}
use Rattle.table.specs.Model.{content}
use Rattle.dispatch.specs.Advanced.{Moves}
use Rattle.dispatch.specs.Lines.{board}
use Rattle.dispatch.proofs.Movings.{over_is}
use Rattle.dispatch.proofs.run.Run.serve.Goals as goal

pub returns-then-is_over : goal.returns-then-is_over
returns-then-is_over g c = record {
  policy = refl;
  table = c.finish.ensures.table;
  time = c.finish.ensures.time;
  moves = λ p ps w.
      let d = c.args.self.now.station in
      let e = c.finish.new.self in
      let f = c.args.front in
      subst (λ v. Moves (content d.table) d.time (board d.lines) (board e.lines) d.stage e.stage f.task v p ps c.finish.result) (over_is d f c.args.done true p ps c.requires w (c.if-is_over.ensures.value p ps)) (c.finish.ensures.moves p ps w);
}

pub returns-else-is_over : goal.returns-else-is_over
returns-else-is_over g c = record {
  policy = refl;
  table = c.go_on.ensures.table;
  time = c.go_on.ensures.time;
  moves = λ p ps w.
      let d = c.args.self.now.station in
      let e = c.go_on.new.self in
      let f = c.args.front in
      subst (λ v. Moves (content d.table) d.time (board d.lines) (board e.lines) d.stage e.stage f.task v p ps c.go_on.result) (over_is d f c.args.done false p ps c.requires w (c.if-is_over.ensures.value p ps)) (c.go_on.ensures.moves p ps w);
}
