-- The oldest waiting job of a task.
use Rattle.std.specs.Prelude.{◌≡◌, ℕ, ◌<◌, ◌≤◌, List, [], ◌∷◌, Some, None, Ok, Err, Option, Result}
use Rattle.table.specs.Model.{content}
use Rattle.table.specs.Rules.{TaskSet, task_count}
use Rattle.table.specs.declared.refusal.Refusal.{Refusal}
use Rattle.table.specs.declared.refusal.Refusal.TheVariants.{NoTaskToRun}
use Rattle.policy.specs.Order.{Order}
use Rattle.theory.specs.Lists.{those}
use Rattle.theory.specs.Machine.{Work, State, Call, start, play, of_task, waiting, or_else}
use Rattle.dispatch.specs.Leading.{first_release}
use Rattle.dispatch.specs.Represents.{Answered}
use Rattle.dispatch.specs.Summaries.{Summary}
use Rattle.dispatch.specs.declared.station.Station.{Station}

-- the release of the last of these jobs
unfoldable pub last_release : List Work → Option ℕ
last_release [] = None
last_release (w ∷ ws) = or_else (last_release ws) (Some w.release)

-- a state has the newest job first, so the oldest of task j that waits is the last one
abbrev pub oldest_waiting : State → ℕ → Option ℕ
oldest_waiting st j = last_release (those (of_task j) (waiting st))

-- the first of the line of task j; a missing task is refused
abbrev pub FirstOf : TaskSet → (ℕ → Summary) → ℕ → Result (Option ℕ) Refusal → Type 0
FirstOf s b j (Ok got) = (j < task_count s) × (got ≡ first_release (b j).waiting)
FirstOf s b j (Err e) = (e ≡ NoTaskToRun j) × (task_count s ≤ j)

-- for every list of calls that the station has answered: the reference machine's oldest waiting job of task j
abbrev pub Oldest : Order → Station → ℕ → Result (Option ℕ) Refusal → Type 0
Oldest o d j (Ok got) = (j < task_count (content d.table)) × ((calls : List Call) → Answered o d calls → got ≡ oldest_waiting (play (content d.table) o start calls) j)
Oldest o d j (Err e) = (e ≡ NoTaskToRun j) × (task_count (content d.table) ≤ j)
