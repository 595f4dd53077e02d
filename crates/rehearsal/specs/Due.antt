-- Which task's oldest waiting job has reached its deadline.
use Rattle.std.specs.Prelude.{◌≡◌, ℕ, ◌-◌, ◌<◌, cond, Some, None, Option, nat_le}
use Rattle.table.specs.Rules.{TaskSet, task_at, task_count}
use Rattle.theory.specs.Machine.{State}
use Rattle.dispatch.specs.Oldest.{oldest_waiting}
use Rattle.rehearsal.specs.declared.misses.Miss.{Miss}

-- this release, where its deadline is reached
abbrev pub if_due : ℕ → ℕ → Option ℕ → Option ℕ
if_due deadline time None = None
if_due deadline time (Some q) = cond (nat_le deadline (time - q)) (Some q) None

-- the release of the oldest waiting job of task j, where its deadline is reached
abbrev pub due_of : TaskSet → State → ℕ → ℕ → Option ℕ
due_of s st time j = if_due (task_at s j).deadline time (oldest_waiting st j)

-- that of the lowest-numbered task that has one
abbrev pub DueFirst : TaskSet → State → ℕ → Option Miss → Type 0
DueFirst s st time None = (j : ℕ) → j < task_count s → due_of s st time j ≡ None
DueFirst s st time (Some m) = (m.task < task_count s) × (due_of s st time m.task ≡ Some m.release) × (m.time ≡ time) × ((j : ℕ) → j < m.task → due_of s st time j ≡ None)
