-- What is settled of a reach before the order speaks: Never outside the table, and 0 from a task to itself.
use Rattle.std.specs.Prelude.{ℕ, cond, ◌&&◌, pos, ◌==◌, nat_lt}
use Rattle.table.specs.Rules.{TaskSet, task_count}
use Rattle.policy.specs.declared.job.Reach.{Reach}
use Rattle.policy.specs.declared.job.Reach.TheVariants.{Never, Within}

-- the reach from i to j that a call answers where the order has `asked`
abbrev pub settled_reach : TaskSet → ℕ → ℕ → Reach → Reach
settled_reach s i j asked = cond (nat_lt i (task_count s) && nat_lt j (task_count s)) (cond (i == j) (Within (pos 0)) asked) Never
