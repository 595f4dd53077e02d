-- One reference table: a task set, an order, its busy period, and for each task its worst response with the least offset that gives it.
use Rattle.std.specs.Prelude.{◌≡◌, ℕ, suc, ◌≤◌, List, [], ◌∷◌, length, Err}
use Rattle.table.specs.Rules.{TaskSet, Checked, task_count}
use Rattle.table.specs.declared.refusal.Refusal.TheVariants.{NoBusyPeriod, RankUnfilled}
use Rattle.policy.specs.Order.{Order}
use Rattle.theory.specs.BusyPeriod.{BusyPeriod}
use Rattle.theory.specs.Guarantee.{AdmittedBy, LateBy}
use Rattle.theory.specs.Worst.{Worst}
use Rattle.analysis.specs.Judged.{Judged}
use Rattle.analysis.specs.declared.rows.Row.{Row}
use Rattle.priority.specs.Assignment.{Assigned, Unfilled, Unassigned}

-- the pairs (response, offset) are those of the tasks from number i on, one for each
abbrev pub RowsFrom : TaskSet → Order → ℕ → ℕ → List (ℕ × ℕ) → Type 0
RowsFrom s o L i [] = i ≡ task_count s
RowsFrom s o L i (x ∷ xs) = Worst s o L i x.0 x.1 × RowsFrom s o L (suc i) xs

-- a table can hold s; L is its busy period and these are its rows
pub record JudgedAs (order : TaskSet → Order) (s : TaskSet) (L : ℕ) (rows : List (ℕ × ℕ)) : Type 0 where
  pub checked : Checked s
  pub busy : BusyPeriod s L
  pub worst : RowsFrom s (order s) L 0 rows

-- and every task meets its deadline
abbrev pub AdmittedAs : (TaskSet → Order) → TaskSet → ℕ → List (ℕ × ℕ) → Type 0
AdmittedAs order s L rows = JudgedAs order s L rows × AdmittedBy s (order s) L

-- and some task does not
abbrev pub LateAs : (TaskSet → Order) → TaskSet → ℕ → List (ℕ × ℕ) → Type 0
LateAs order s L rows = JudgedAs order s L rows × LateBy s (order s) L

-- a table can hold s, and the judgement refuses it for want of a busy period, whichever rows are lent, as long as there are enough
abbrev pub RefusedAs : (TaskSet → Order) → TaskSet → Type 0
RefusedAs order s = Checked s × ((rows : List Row) → task_count s ≤ length rows → Judged s (order s) rows rows (Err NoBusyPeriod))

-- the tasks of s, whose busy period is L, get the priorities that they have in t
abbrev pub AssignedAs : TaskSet → TaskSet → ℕ → Type 0
AssignedAs s t L = BusyPeriod s L × Assigned s t L

-- no task left can take rank k of s, whose busy period is L, and so every order of its tasks has a late one: the assignment refuses, with that rank
abbrev pub UnfilledAs : TaskSet → ℕ → ℕ → Type 0
UnfilledAs s L k = BusyPeriod s L × Unfilled s L k × Unassigned s (RankUnfilled k)
