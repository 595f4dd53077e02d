use Rattle.std.proofs.Common.{◌≡◌, ℕ, ◌<◌, ◌≤◌, get_or}
use Rattle.table.specs.Content.{sporadic}
use Rattle.table.specs.declared.task.Task.{Task}
use Rattle.priority.specs.Exchange.{exchange}
use Rattle.priority.proofs.ranking.exchanged_tasks.Given as goal

-- the tasks so far are exchanged, the others are as they were
abbrev pub invariant-loop-task : goal.invariant-loop-task
invariant-loop-task l =
    (k : ℕ) (d : Task)
    → (k < l.task-index → sporadic (get_or l.task-items k d) ≡ exchange l.first l.second (sporadic (get_or l.initial.task-items k d)))
    × (l.task-index ≤ k → get_or l.task-items k d ≡ get_or l.initial.task-items k d)
