-- Fixed priorities by the published recurrences. The tasks above i are those of lower rank, the tasks below i those of higher rank.
use Rattle.std.specs.Prelude.{◌≡◌, ℕ, ◌+◌, ◌-◌, ◌*◌, ◌/◌, ◌<◌, ◌≤◌, cond, nat_lt}
use Rattle.table.specs.Rules.{TaskSet, task_at, task_count}
use Rattle.table.specs.declared.kinds.Mode.{Mode}
use Rattle.table.specs.declared.kinds.Mode.TheVariants.{NonPreemptive, Preemptive}
use Rattle.policy.specs.Orders.{fixed_order}
use Rattle.theory.specs.Sums.{sum_below, max_below}
use Rattle.theory.specs.LeastSolution.{LeastSolution}
use Rattle.theory.specs.BusyPeriod.{ceil_div}
use Rattle.theory.specs.Worst.{Worst}

-- the sum over the tasks above i
abbrev pub sum_above : TaskSet → ℕ → (ℕ → ℕ) → ℕ
sum_above s i f = sum_below (task_count s) (λ j. cond (nat_lt (task_at s j).rank (task_at s i).rank) (f j) 0)

-- the greatest C - 1 over the tasks below i, or 0
abbrev pub blocking_below : TaskSet → ℕ → ℕ
blocking_below s i = max_below (task_count s) (λ k. cond (nat_lt (task_at s i).rank (task_at s k).rank) ((task_at s k).cost - 1) 0)

-- the work of i and of the tasks above it in t ticks, and without preemption the blocking
abbrev pub level_load : Mode → TaskSet → ℕ → ℕ → ℕ
level_load Preemptive s i t = ceil_div t (task_at s i).period * (task_at s i).cost + sum_above s i (λ j. ceil_div t (task_at s j).period * (task_at s j).cost)
level_load NonPreemptive s i t = (ceil_div t (task_at s i).period * (task_at s i).cost + sum_above s i (λ j. ceil_div t (task_at s j).period * (task_at s j).cost)) + blocking_below s i

-- when job q of i (counted from 0) ends, or without preemption begins: the right side of its recurrence, and the number from which on the least solution is meant
abbrev pub recurrence : Mode → TaskSet → ℕ → ℕ → ℕ → ℕ
recurrence Preemptive s i q t = (q + 1) * (task_at s i).cost + sum_above s i (λ j. ceil_div t (task_at s j).period * (task_at s j).cost)
recurrence NonPreemptive s i q t = (blocking_below s i + q * (task_at s i).cost) + sum_above s i (λ j. (1 + t / (task_at s j).period) * (task_at s j).cost)

abbrev pub recurrence_from : Mode → ℕ
recurrence_from Preemptive = 1
recurrence_from NonPreemptive = 0

abbrev pub Recurs : TaskSet → ℕ → ℕ → ℕ → Type 0
Recurs s i q w = LeastSolution (recurrence_from s.mode) (recurrence s.mode s i q) w

-- the response of job q, from the solution w of its recurrence
abbrev pub response_of : Mode → TaskSet → ℕ → ℕ → ℕ → ℕ
response_of Preemptive s i q w = w - q * (task_at s i).period
response_of NonPreemptive s i q w = (w + (task_at s i).cost) - q * (task_at s i).period

-- r is the greatest response of the jobs q with q·T below the busy period `level` of i and the tasks above it; each has its w, and no w is below q·T
pub record LevelResponse (s : TaskSet) (i r level : ℕ) : Type 0 where
  pub busy : LeastSolution 1 (level_load s.mode s i) level
  pub solved : (q : ℕ) → q * (task_at s i).period < level → (w : ℕ) × Recurs s i q w × (q * (task_at s i).period ≤ w)
  pub longest : (q w : ℕ) → q * (task_at s i).period < level → Recurs s i q w → response_of s.mode s i q w ≤ r
  pub taken : (q : ℕ) × (w : ℕ) × (q * (task_at s i).period < level) × Recurs s i q w × (r ≡ response_of s.mode s i q w)

-- the worst response of every task is the one of the recurrences
abbrev pub FixedAsPublished : TaskSet → ℕ → Type 0
FixedAsPublished s L = (i r a : ℕ) → i < task_count s → Worst s (fixed_order s) L i r a → (level : ℕ) × LevelResponse s i r level
