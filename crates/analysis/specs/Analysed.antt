-- What the analysis of one task answers.
use Rattle.std.specs.Prelude.{◌≡◌, ℕ, ◌<◌, ◌≤◌, ◌⊎◌, Ok, Err, Result}
use Rattle.table.specs.Rules.{TaskSet, task_count}
use Rattle.table.specs.declared.refusal.Refusal.{Refusal}
use Rattle.table.specs.declared.refusal.Refusal.TheVariants.{NoTaskToJudge, NoBusyPeriod}
use Rattle.policy.specs.Order.{Order}
use Rattle.theory.specs.BusyPeriod.{BusyPeriod, Overloaded, longest_busy_period}
use Rattle.analysis.specs.Judged.{RowOf}
use Rattle.analysis.specs.declared.rows.Row.{Row}

-- the row of task i; refused where there is no such task, and then for want of a busy period
abbrev pub Analysed : TaskSet → Order → ℕ → Result Row Refusal → Type 0
Analysed s o i (Ok row) = (L : ℕ) × (L ≤ longest_busy_period) × BusyPeriod s L × (i < task_count s) × RowOf s o L i row
Analysed s o i (Err e) = ((e ≡ NoTaskToJudge i) × (task_count s ≤ i)) ⊎ ((e ≡ NoBusyPeriod) × (i < task_count s) × Overloaded s)
