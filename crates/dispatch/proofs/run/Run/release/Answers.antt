use Rattle.std.proofs.Common.{refl}
use Rattle.table.specs.Model.{content}
use Rattle.policy.proofs.Lawfulness.{table_laws}
use Rattle.dispatch.proofs.Kept.{refused_so}
use Rattle.dispatch.proofs.run.Run.release.Goals as goal

pub returns : goal.returns
returns g c =
    let d = c.args.self.now.station in
    let p = c.args.self.now.policy in
    let s = content d.table in
    let met = g.met.P.Policy in
    let laws = table_laws g.P.Policy.meaning met.total met.transitive met.earlier met.range met.rule p d.table in
    record {
      policy = refl;
      table = c.release.ensures.table;
      refused = refused_so c.release.result _ _ (λ e k. record { policy = p; station = e k }) c.release.ensures.refused;
      answered = c.release.ensures.answered (g.P.Policy.meaning p s) laws;
    }
