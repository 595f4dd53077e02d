use Rattle.table.specs.Model.{content}
use Rattle.dispatch.proofs.Oldest.{oldest_of}
use Rattle.dispatch.proofs.run.Run.oldest.Goals as goal

pub returns : goal.returns
returns g c =
    let run = c.args.self.now in
    oldest_of (g.P.Policy.meaning run.policy (content run.station.table)) run.station c.args.task c.oldest.result c.oldest.ensures
