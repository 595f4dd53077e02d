-- What a judgement answers and writes, for every table, order and list of rows that it is lent.
use Rattle.std.specs.Prelude.{◌≡◌, ℕ, ◌<◌, ◌≤◌, ◌⊎◌, List, length, drop, Ok, Err, Result, slice_index_or}
use Rattle.table.specs.Rules.{TaskSet, task_at, task_count}
use Rattle.table.specs.declared.refusal.Refusal.{Refusal}
use Rattle.table.specs.declared.refusal.Refusal.TheVariants.{FewRows, NoBusyPeriod}
use Rattle.policy.specs.Order.{Order}
use Rattle.theory.specs.BusyPeriod.{BusyPeriod, Overloaded, longest_busy_period}
use Rattle.theory.specs.Worst.{Worst}
use Rattle.analysis.specs.declared.rows.Row.{Row}
use Rattle.analysis.specs.declared.rows.Judgement.{Judgement}
use Rattle.analysis.specs.declared.rows.Verdict.{Verdict}
use Rattle.analysis.specs.declared.rows.Verdict.TheVariants.{Admitted, Late}

-- the row of a number; past the last one, a row that no statement speaks of
abbrev pub no_row : Row
no_row = record { response = 0; offset = 0; deadline = 0 }

abbrev pub row_at : List Row → ℕ → Row
row_at rows i = slice_index_or rows i no_row

-- the row of task i tells its worst response, the least offset that gives it, and its deadline
abbrev pub RowOf : TaskSet → Order → ℕ → ℕ → Row → Type 0
RowOf s o L i row = Worst s o L i row.response row.offset × (row.deadline ≡ (task_at s i).deadline)

abbrev pub Meets : List Row → ℕ → Type 0
Meets rows i = (row_at rows i).response ≤ (row_at rows i).deadline

-- of the first n rows: admitted where each meets its deadline; late with the lowest-numbered that does not
abbrev pub VerdictOf : ℕ → List Row → Verdict → Type 0
VerdictOf n rows Admitted = (i : ℕ) → i < n → Meets rows i
VerdictOf n rows (Late k) = (k < n) × ((row_at rows k).deadline < (row_at rows k).response) × ((i : ℕ) → i < k → Meets rows i)

-- a judgement that is given: one row for each task, and further rows untouched
pub record Given (s : TaskSet) (o : Order) (before after : List Row) (j : Judgement) : Type 0 where
  pub enough : task_count s ≤ length before
  pub short : j.busy_period ≤ longest_busy_period
  pub busy : BusyPeriod s j.busy_period
  pub rows : (i : ℕ) → i < task_count s → RowOf s o j.busy_period i (row_at after i)
  pub rest : drop (task_count s) after ≡ drop (task_count s) before
  pub verdict : VerdictOf (task_count s) after j.verdict

-- refused for too few rows, and then for want of a busy period; the rows stay as they were
abbrev pub Judged : TaskSet → Order → List Row → List Row → Result Judgement Refusal → Type 0
Judged s o before after (Ok j) = Given s o before after j
Judged s o before after (Err e) = (after ≡ before) × (((e ≡ FewRows) × (length before < task_count s)) ⊎ ((e ≡ NoBusyPeriod) × (task_count s ≤ length before) × Overloaded s))
