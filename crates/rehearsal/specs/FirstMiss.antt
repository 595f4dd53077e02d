-- The first deadline that is missed along the worst course of a task.
use Rattle.std.specs.Prelude.{◌≡◌, ℕ, ◌+◌, ◌<◌, ◌≤◌, true, false, List, Some, None, Ok, Err, Option, Result}
use Rattle.table.specs.Rules.{TaskSet, task_at, task_count}
use Rattle.table.specs.declared.refusal.Refusal.{Refusal}
use Rattle.table.specs.declared.refusal.Refusal.TheVariants.{NoTaskToJudge}
use Rattle.policy.specs.Order.{Order}
use Rattle.theory.specs.Course.{lead, course_until}
use Rattle.theory.specs.Guarantee.{after, OverdueAfter}
use Rattle.theory.specs.Lists.{In}
use Rattle.theory.specs.Machine.{Work, State}
use Rattle.analysis.specs.Judged.{Given, row_at}
use Rattle.analysis.specs.declared.rows.Row.{Row}
use Rattle.analysis.specs.declared.rows.Judgement.{Judgement}
use Rattle.rehearsal.specs.Rehearsed.{playable}
use Rattle.rehearsal.specs.declared.misses.Miss.{Miss}

-- the state at this time of the worst course of task i at offset a
abbrev pub course_at : TaskSet → Order → ℕ → ℕ → ℕ → State
course_at s o i a t = after s o (course_until s o i a t)

-- up to `end`: a job is unfinished as its deadline comes, none was overdue before, and no task of a lower number has one that is overdue then
pub record FirstMiss (s : TaskSet) (o : Order) (i a end : ℕ) (m : Miss) : Type 0 where
  pub on_course : m.time ≤ end
  pub clock : (course_at s o i a m.time).time ≡ m.time
  pub unfinished : (w : Work) × In w (course_at s o i a m.time).jobs × (w.finished ≡ false) × (w.task ≡ m.task) × (w.release ≡ m.release)
  pub due : m.release + (task_at s m.task).deadline ≡ m.time
  pub none_before : (t : ℕ) → t < m.time → OverdueAfter s o (course_until s o i a t) → ⊥
  pub lowest : (w : Work) → In w (course_at s o i a m.time).jobs → w.finished ≡ false → w.release + (task_at s w.task).deadline ≤ m.time → m.task ≤ w.task

-- none where no job is overdue at any time of the course
abbrev pub MissedFirst : TaskSet → Order → ℕ → ℕ → ℕ → Option Miss → Type 0
MissedFirst s o i a end None = (t : ℕ) → t ≤ end → OverdueAfter s o (course_until s o i a t) → ⊥
MissedFirst s o i a end (Some m) = FirstMiss s o i a end m

-- along the worst course of task i that its row tells; a row that is out of range meets none, a missing task is refused
abbrev pub Sought : TaskSet → Order → ℕ → Row → Result (Option Miss) Refusal → Type 0
Sought s o i row (Ok got) = (i < task_count s)
    × (playable row ≡ true → MissedFirst s o i row.offset (lead s o i row.offset + row.offset + row.response) got)
    × (playable row ≡ false → got ≡ None)
Sought s o i row (Err e) = (e ≡ NoTaskToJudge i) × (task_count s ≤ i)

-- along the worst course of a late row of a judgement some deadline is missed
abbrev pub LateSeen : TaskSet → Order → ℕ → Row → Result (Option Miss) Refusal → Type 0
LateSeen s o i row got = (before rows : List Row) (j : Judgement) → Given s o before rows j → i < task_count s → row ≡ row_at rows i → row.deadline < row.response → (m : Miss) × (got ≡ Ok (Some m))
