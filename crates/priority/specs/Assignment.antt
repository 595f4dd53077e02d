-- Priority assignment from the last rank up: each rank takes the highest-numbered task that is left and meets its deadline there.
use Rattle.std.specs.Prelude.{◌≡◌, ℕ, ◌<◌, ◌≤◌, cond, ◌⊎◌, Ok, Err, Result, ◌==◌, nat_lt}
use Rattle.table.specs.Rules.{TaskSet, task_at, task_count}
use Rattle.table.specs.Model.{content}
use Rattle.table.specs.declared.checked.Table.{Table}
use Rattle.table.specs.declared.refusal.Refusal.{Refusal}
use Rattle.table.specs.declared.refusal.Refusal.TheVariants.{NoBusyPeriod, RankUnfilled}
use Rattle.policy.specs.Orders.{fixed_order}
use Rattle.theory.specs.BusyPeriod.{BusyPeriod, Overloaded, longest_busy_period}
use Rattle.theory.specs.Worst.{Worst}
use Rattle.theory.specs.Guarantee.{AdmittedBy, LateBy}
use Rattle.priority.specs.Ordering.{OrderingOf, rank_in, level_order}

-- where the tasks stand while task i is tried at rank k: those placed behind k are behind it, all others ahead of it
abbrev pub level_at : TaskSet → ℕ → ℕ → ℕ → ℕ
level_at t k i j = cond (j == i) 1 (cond (nat_lt k (rank_in t j)) 2 0)

-- task i meets its deadline at rank k, with the tasks of the ranks after k behind it and all others ahead
abbrev pub Fits : TaskSet → ℕ → ℕ → ℕ → Type 0
Fits t L k i = (r a : ℕ) → Worst t (level_order (level_at t k i)) L i r a → r ≤ (task_at t i).deadline

-- task i has its rank by the rule: it fits there, and no higher-numbered task that was left fits
abbrev pub Takes : TaskSet → ℕ → ℕ → Type 0
Takes t L i = Fits t L (rank_in t i) i × ((j : ℕ) → i < j → j < task_count t → rank_in t j < rank_in t i → Fits t L (rank_in t i) j → ⊥)

-- the ranks after k are filled by the rule
abbrev pub Filled : TaskSet → ℕ → ℕ → Type 0
Filled t L k = (i : ℕ) → i < task_count t → k < rank_in t i → Takes t L i

-- none of the tasks that are left fits at rank k
abbrev pub Stuck : TaskSet → ℕ → ℕ → Type 0
Stuck t L k = (i : ℕ) → i < task_count t → rank_in t i ≤ k → Fits t L k i → ⊥

-- an order of the tasks of s by the rule, all of which meet their deadlines
pub record Assigned (s t : TaskSet) (L : ℕ) : Type 0 where
  pub ordering : OrderingOf s t
  pub filled : Filled t L 0
  pub admitted : AdmittedBy t (fixed_order t) L

-- rank k is the first from the last one up that no task left can take, and whichever order of the tasks has a late task
pub record Unfilled (s : TaskSet) (L k : ℕ) : Type 0 where
  pub low : 1 ≤ k
  pub high : k ≤ task_count s
  pub placed : (t : TaskSet) × OrderingOf s t × Filled t L k × Stuck t L k
  pub in_vain : (t : TaskSet) → OrderingOf s t → LateBy t (fixed_order t) L

-- why the assignment refuses, in checking order
abbrev pub Unassigned : TaskSet → Refusal → Type 0
Unassigned s e = ((e ≡ NoBusyPeriod) × Overloaded s) ⊎ ((L : ℕ) × (k : ℕ) × (e ≡ RankUnfilled k) × (L ≤ longest_busy_period) × BusyPeriod s L × Unfilled s L k)

-- the place holds the assigned order, or what it held before the refusal
abbrev pub Outcome : {X : Type 0} → TaskSet → Table → Table → Result X Refusal → Type 0
Outcome s before after (Ok x) = (L : ℕ) × (L ≤ longest_busy_period) × BusyPeriod s L × Assigned s (content after) L
Outcome s before after (Err e) = (after ≡ before) × Unassigned s e
