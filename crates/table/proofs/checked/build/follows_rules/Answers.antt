use Rattle.std.proofs.Common.{rules}
use lib.ListN.{length-map}
use Rattle.table.specs.Rules.{follows_rules}
use Rattle.table.proofs.checked.build.follows_rules.Goals as goal

pub returns-then-tasks_in_range : goal.returns-then-tasks_in_range
unfolding follows_rules
returns-then-tasks_in_range c = search (rules, length-map)

pub returns-else-tasks_in_range : goal.returns-else-tasks_in_range
unfolding follows_rules
returns-else-tasks_in_range c = search (rules, length-map)
