-- A course with its lead found once: it has the releases of the worst course.
use Rattle.std.specs.Prelude.{◌≡◌, ℕ, ◌<◌, ◌≤◌, Some, None, Ok, Err, Option, Result}
use Rattle.table.specs.Rules.{TaskSet, task_at, task_count}
use Rattle.table.specs.declared.refusal.Refusal.{Refusal}
use Rattle.table.specs.declared.refusal.Refusal.TheVariants.{NoTaskToJudge}
use Rattle.policy.specs.Order.{Order}
use Rattle.theory.specs.Course.{releases_at, lead}
use Rattle.courses.specs.Courses.{offset_limit, releases_by}
use Rattle.courses.specs.declared.course.Course.{Course}

-- the course of its task at its offset, under this order
pub record CourseOf (s : TaskSet) (o : Order) (c : Course) : Type 0 where
  pub ticks : c.lead.ticks ≡ lead s o c.task c.offset
  pub told : (j t : ℕ) → releases_by c.lead c.task c.offset j (task_at s j).period t ≡ releases_at s o c.task c.offset j t

-- none from an offset of 60,000 on; a missing task is refused
abbrev pub Coursed : TaskSet → Order → ℕ → ℕ → Result (Option Course) Refusal → Type 0
Coursed s o i a (Ok (Some c)) = (i < task_count s) × (a < offset_limit) × (c.task ≡ i) × (c.offset ≡ a) × CourseOf s o c
Coursed s o i a (Ok None) = (i < task_count s) × (offset_limit ≤ a)
Coursed s o i a (Err e) = (e ≡ NoTaskToJudge i) × (task_count s ≤ i)
