-- The course that is played from a row, and how far.
use Rattle.std.specs.Prelude.{◌≡◌, ℕ, ◌+◌, ◌<◌, ◌≤◌, true, false, Some, None, Ok, Err, Option, Result}
use Rattle.table.specs.Rules.{TaskSet, task_count}
use Rattle.table.specs.declared.refusal.Refusal.{Refusal}
use Rattle.table.specs.declared.refusal.Refusal.TheVariants.{NoTaskToJudge}
use Rattle.policy.specs.Order.{Order}
use Rattle.analysis.specs.declared.rows.Row.{Row}
use Rattle.courses.specs.OneCourse.{CourseOf}
use Rattle.courses.specs.declared.course.Course.{Course}
use Rattle.rehearsal.specs.Rehearsed.{playable}

-- up to the row's response after its job's release; none where the row is out of range, a missing task is refused
abbrev pub ToPlay : TaskSet → Order → ℕ → Row → Result (Option (Course × ℕ)) Refusal → Type 0
ToPlay s o i row (Ok (Some (c, end))) = (i < task_count s) × (playable row ≡ true) × (c.task ≡ i) × (c.offset ≡ row.offset) × CourseOf s o c × (end ≡ (c.lead.ticks + c.offset) + row.response)
ToPlay s o i row (Ok None) = (i < task_count s) × (playable row ≡ false)
ToPlay s o i row (Err e) = (e ≡ NoTaskToJudge i) × (task_count s ≤ i)
