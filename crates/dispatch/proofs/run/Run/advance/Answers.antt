use Rattle.std.proofs.Common.{◌∙◌, subst}
use Rattle.table.specs.Model.{content}
use Rattle.dispatch.specs.Advanced.{Advanced}
use Rattle.dispatch.specs.Lines.{board}
use Rattle.dispatch.proofs.Movings.{advanced_from}
use Rattle.dispatch.proofs.run.Run.advance.Goals as goal

pub returns : goal.returns
returns g c =
    let m = c.pass.new.self in
    let e = c.serve.new.self.station in
    let passed = c.pass.ensures in
    let moved = advanced_from m e c.in-Some.front m.time c.args.chosen c.args.done c.serve.result c.in-Some.ensures.0 c.serve.ensures.moves in
    record {
      policy = c.serve.ensures.policy;
      table = c.serve.ensures.table ∙ passed.table;
      time = c.serve.ensures.time ∙ passed.time;
      moved = subst (λ (t : Type 0). t) (λ k. Advanced (content (passed.table k)) (passed.time k) (board (passed.lines k)) (board e.lines) (passed.stage k) e.stage c.args.chosen c.args.done c.serve.result) moved;
    }
