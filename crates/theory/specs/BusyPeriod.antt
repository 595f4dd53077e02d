-- The busy period ("stretch"): how long the processor stays busy when all tasks release at once and then as often as they may.
use Rattle.std.specs.Prelude.{ℕ, ◌+◌, ◌-◌, ◌*◌, ◌/◌, ◌≤◌}
use Rattle.table.specs.Rules.{TaskSet, task_at, task_count}
use Rattle.theory.specs.Sums.{sum_below}
use Rattle.theory.specs.LeastSolution.{LeastSolution}

-- t / d rounded up, for d of at least 1
abbrev pub ceil_div : ℕ → ℕ → ℕ
ceil_div t d = (t + (d - 1)) / d

-- the work that all tasks ask for within t ticks
abbrev pub load : TaskSet → ℕ → ℕ
load s t = sum_below (task_count s) (λ j. ceil_div t (task_at s j).period * (task_at s j).cost)

-- L is the busy period: the least t of at least 1 with t = load t
abbrev pub BusyPeriod : TaskSet → ℕ → Type 0
BusyPeriod s L = LeastSolution 1 (load s) L

-- the longest busy period that is judged
abbrev pub longest_busy_period : ℕ
longest_busy_period = 60000

-- there is none of up to 60,000 ticks
abbrev pub Overloaded : TaskSet → Type 0
Overloaded s = (L : ℕ) → L ≤ longest_busy_period → BusyPeriod s L → ⊥
