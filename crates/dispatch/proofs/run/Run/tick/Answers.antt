use Rattle.std.proofs.Common.{◌<◌, sym, refl, subst}
use Rattle.std.proofs.lemmas.Bool.{leb-true, leb-false}
use Rattle.table.specs.Model.{content}
use Rattle.table.proofs.Tables.{table_checked}
use Rattle.policy.proofs.Lawfulness.{table_laws}
use Rattle.theory.specs.Machine.{tick}
use Rattle.dispatch.specs.Lines.{board}
use Rattle.dispatch.specs.Replies.{ticked_told}
use Rattle.dispatch.proofs.Stations.{boards_plain, answered_next}
use Rattle.dispatch.proofs.Ties.{Next, tick_over, tick_moves}
use Rattle.dispatch.proofs.run.Run.tick.Goals as goal

pub returns-then-is_over : goal.returns-then-is_over
returns-then-is_over g c = record {
  policy = refl;
  table = refl;
  refused = refl;
  answered = λ calls rep.
      let d = c.args.self.now.station in
      let n = tick_over (content d.table) (g.P.Policy.meaning c.args.self.now.policy (content d.table)) calls d.time (board d.lines) d.stage rep c.args.done (leb-true 4000000000 d.time (sym c.if-is_over.ensures)) in
      (n.stands, n.tells);
}

pub returns : goal.returns
returns g c = record {
  policy = c.advance.ensures.policy;
  table = c.advance.ensures.table;
  refused = tt;
  answered = λ calls rep.
      let d = c.args.self.now.station in
      let e = c.advance.new.self.station in
      let p = c.args.self.now.policy in
      let s = content d.table in
      let o = g.P.Policy.meaning p s in
      let met = g.met.P.Policy in
      let checked = table_checked d.table in
      let laws = table_laws g.P.Policy.meaning met.total met.transitive met.earlier met.range met.rule p d.table in
      let early : d.time < 4000000000 = leb-false 4000000000 d.time (sym c.if-is_over.ensures) in
      let n = tick_moves s o calls d.time (board d.lines) d.stage rep checked laws c.args.done early (λ j h. boards_plain d.lines j) c.pick-chosen.result c.pick-chosen.ensures (board e.lines) e.stage c.advance.result c.advance.ensures.moved in
      answered_next d e o calls (tick c.args.done) (ticked_told c.advance.result) c.advance.ensures.table (subst (λ t. Next s o calls (tick c.args.done) t (board e.lines) e.stage (ticked_told c.advance.result)) (sym c.advance.ensures.time) n);
}
