-- A reach as a lane has it: with 100,000 added, so that it is never negative. Always and Never are as far as an offset can tell.
use Rattle.std.specs.Prelude.{◌≡◌, ℕ, cond, pos, ◌+ℤ◌, ◌==◌, unsigned_abs}
use Rattle.table.specs.Rules.{TaskSet, task_at}
use Rattle.policy.specs.Order.{Order}
use Rattle.policy.specs.Answers.{reach_answer}
use Rattle.policy.specs.declared.job.Reach.{Reach}
use Rattle.policy.specs.declared.job.Reach.TheVariants.{Always, Never, Within}
use Rattle.analysis.specs.declared.lanes.Lane.{Lane}

abbrev pub lead_of : Reach → ℕ
lead_of Always = 200000
lead_of Never = 0
lead_of (Within y) = unsigned_abs (y +ℤ pos 100000)

-- the lane of task j in the analysis of task i; its own lane has no cost
abbrev pub LaneTo : TaskSet → Order → ℕ → ℕ → Lane → Type 0
LaneTo s o i j l = (l.cost ≡ cond (j == i) 0 (task_at s j).cost) × (l.period ≡ (task_at s j).period) × (l.lead ≡ lead_of (reach_answer s o i j))
