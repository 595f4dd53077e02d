-- The least solution lies at or below every window that is long enough for what is asked.
use Rattle.std.proofs.Common.{ℕ, ◌/◌, ◌<◌, ◌≤◌, add-mul, arith}
use Rattle.table.specs.Rules.{TaskSet, Checked, task_at, task_count}
use Rattle.table.proofs.Ranges.{task_ranges}
use Rattle.policy.specs.Order.{Order}
use Rattle.theory.specs.LeastSolution.{LeastSolution}
use Rattle.theory.specs.Response.{until_finish}
use Rattle.theory.proofs.Solutions.{Monotone, solution}

pub least_under : (low : ℕ) (W : ℕ → ℕ) (F c : ℕ) → LeastSolution low W F → Monotone W → low ≤ W low → low ≤ c → W c ≤ c → F ≤ c
least_under low W F c sol mono first up cap = let r = solution low W c mono first up cap in omega (arith, sol.least r.0 r.1.from r.1.solves, r.2)

pub finish_first : (s : TaskSet) (o : Order) (i a : ℕ) → Checked s → i < task_count s → 1 ≤ until_finish s o i a 1
finish_first s o i a checked hi = omega (arith, add-mul 1 (a / (task_at s i).period) (task_at s i).cost, (task_ranges s checked i hi).cost_low)
