use Rattle.std.proofs.Common.{ap, ◌∙◌}
use Rattle.table.specs.Model.{content}
use Rattle.table.specs.Rules.{TaskSet, follows_rules}
use Rattle.table.proofs.Tables.{table_checked}
use Rattle.priority.proofs.Rooms.{made_of, built_some}
use Rattle.priority.proofs.Exchanging.{exchange_checked}
use Rattle.priority.proofs.ranking.exchange_ranks.Goals as goal

pub unwrap-requires : goal.unwrap-requires
unwrap-requires c =
    let t = c.args.table.now in
    let s = content t in
    let is = made_of s c.args.first c.args.second c.count.result c.mode.result c.exchanged_tasks-room.result c.tasks.result.now c.mode.ensures c.count.ensures c.tasks.ensures c.exchanged_tasks-room.ensures.front in
    built_some _ c.new.result c.new.ensures (ap (λ (u : TaskSet). follows_rules u.policy u.band u.tasks) is ∙ exchange_checked c.args.first c.args.second s (table_checked t) c.requires.first_low c.requires.first_high c.requires.second_low c.requires.second_high)
