-- The first job of the chosen task.
use Rattle.std.specs.Prelude.{◌≡◌, ℕ, ◌<◌, ◌≤◌, Some, None, Option}
use Rattle.table.specs.Content.{sporadic}
use Rattle.table.specs.Rules.{TaskSet, task_at, task_count}
use Rattle.dispatch.specs.Leading.{first_release}
use Rattle.dispatch.specs.Lines.{line_summary}
use Rattle.dispatch.specs.Summaries.{Summary}
use Rattle.dispatch.specs.declared.front.Front.{Front}

pub record Fronted (s : TaskSet) (b : ℕ → Summary) (f : Front) : Type 0 where
  pub inside : f.task < task_count s
  pub task : sporadic f.known ≡ task_at s f.task
  pub line : line_summary f.line ≡ b f.task
  pub first : Some f.release ≡ first_release (b f.task).waiting
  pub some : 1 ≤ f.line.len

-- none where no task is chosen, or where no job of it waits
abbrev pub FrontOf : TaskSet → (ℕ → Summary) → Option ℕ → Option Front → Type 0
FrontOf s b chosen None = (i : ℕ) → chosen ≡ Some i → i < task_count s → None ≡ first_release (b i).waiting
FrontOf s b chosen (Some f) = (chosen ≡ Some f.task) × Fronted s b f
