use Rattle.std.proofs.Common.{arith}
use Rattle.table.specs.Model.{content}
use Rattle.table.proofs.Tables.{table_checked}
use Rattle.policy.proofs.Past.{deadline_small}
use Rattle.policy.proofs.deadline.DeadlinePolicy.reach.Goals as goal

pub keyed_reach-requires : goal.keyed_reach-requires
keyed_reach-requires c =
    let t = c.args.table.now in
    let m = deadline_small (content t) (table_checked t) c.args.from in
    let n = deadline_small (content t) (table_checked t) c.args.to in
    (omega arith, omega arith)
