-- What a table finds is in range.
use Rattle.std.proofs.Common.{ℕ, ◌≤◌, Some, ap, arith}
use Rattle.table.specs.Model.{content, Found}
use Rattle.table.specs.Sporadic.{Sporadic}
use Rattle.table.specs.declared.checked.Table.{Table}
use Rattle.table.specs.declared.task.Task.{Task}
use Rattle.table.proofs.Ranges.{task_ranges}
use Rattle.table.proofs.Tables.{table_checked}

-- a task that a table has found has a T of at least 1
pub found_period : (t : Table) (j : ℕ) (task : Task) → Found (content t) j (Some task) → 1 ≤ task.period
found_period t j task found = omega (arith, ap (λ (x : Sporadic). x.period) found.1, (task_ranges (content t) (table_checked t) j found.0).period_low)
