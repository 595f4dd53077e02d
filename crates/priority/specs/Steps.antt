-- What the steps of the assignment answer, for every busy period L of the task set.
use Rattle.std.specs.Prelude.{◌≡◌, ℕ, ◌-◌, ◌≤◌, Some, None, Ok, Err, Option, Result}
use Rattle.table.specs.Model.{content}
use Rattle.table.specs.Rules.{TaskSet, task_at, task_count}
use Rattle.table.specs.declared.checked.Table.{Table}
use Rattle.table.specs.declared.refusal.Refusal.{Refusal}
use Rattle.table.specs.declared.refusal.Refusal.TheVariants.{RankUnfilled}
use Rattle.policy.specs.Orders.{fixed_order}
use Rattle.theory.specs.BusyPeriod.{BusyPeriod, longest_busy_period}
use Rattle.theory.specs.Worst.{Worst}
use Rattle.priority.specs.Ordering.{OrderingOf, rank_in}
use Rattle.priority.specs.Exchange.{with_exchanged}
use Rattle.priority.specs.Assignment.{Fits, Filled, Stuck}

-- L is a busy period that is judged
abbrev pub JudgedBusy : TaskSet → ℕ → Type 0
JudgedBusy s L = (L ≤ longest_busy_period) × BusyPeriod s L

-- task i meets its deadline under the ranks that it and the others have
abbrev pub InTime : TaskSet → ℕ → ℕ → Type 0
InTime t L i = (r a : ℕ) → Worst t (fixed_order t) L i r a → r ≤ (task_at t i).deadline

-- task i, if it is not placed behind k, put at rank k
abbrev pub Put : TaskSet → ℕ → ℕ → Option Table → Type 0
Put t k i None = Unit {0}
Put t k i (Some u) = (rank_in t i ≤ k) × (content u ≡ with_exchanged (rank_in t i) k t)

-- it fits there, or is placed behind k or does not fit
abbrev pub Tried : TaskSet → ℕ → ℕ → ℕ → Option Table → Type 0
Tried t L k i None = rank_in t i ≤ k → Fits t L k i → ⊥
Tried t L k i (Some u) = Fits t L k i

-- the tasks in another order
abbrev pub Reordered : TaskSet → Option Table → Type 0
Reordered t None = Unit {0}
Reordered t (Some u) = OrderingOf t (content u)

-- rank k is filled by the rule, or the assignment is stuck there
abbrev pub Taken : TaskSet → ℕ → ℕ → Option Table → Type 0
Taken t L k None = Stuck t L k
Taken t L k (Some u) = Filled t L k → Filled (content u) L (k - 1)

-- all ranks filled, or the rank where the assignment is stuck
abbrev pub Ranked : TaskSet → ℕ → Result Table Refusal → Type 0
Ranked s L (Ok u) = OrderingOf s (content u) × Filled (content u) L 0
Ranked s L (Err e) = (k : ℕ) × (e ≡ RankUnfilled k) × (1 ≤ k) × (k ≤ task_count s) × ((t : TaskSet) × OrderingOf s t × Filled t L k × Stuck t L k)
