-- The timeline of one task along a worst course: one character a tick.
use Rattle.std.specs.Prelude.{◌≡◌, ℕ, zero, suc, ◌<◌, ◌≤◌, Bool, false, cond, ◌&&◌, ◌⊎◌, List, [], ◌∷◌, ◌++◌, length, Ok, Err, Result, ◌==◌, nat_le, nat_lt}
use Rattle.table.specs.Rules.{TaskSet, task_count}
use Rattle.table.specs.declared.refusal.Refusal.{Refusal}
use Rattle.table.specs.declared.refusal.Refusal.TheVariants.{NoTaskToJudge}
use Rattle.policy.specs.Order.{Order}
use Rattle.theory.specs.Course.{releases_at, releases_below, course_until}
use Rattle.theory.specs.Machine.{Call, tick, Answer, Refused, Released, Idle, Ran, Finished, Looked, start, play, answer}

-- an answer tells that a job of task j ran
abbrev pub runs : ℕ → Answer → Bool
runs j (Ran k release) = k == j
runs j (Finished k release response) = k == j
runs j Idle = false
runs j (Released time) = false
runs j (Refused e) = false
runs j (Looked counts) = false

-- `#` the task runs, `*` it releases and runs, `^` it releases, `.` neither
abbrev pub mark : Bool → Bool → ℕ
mark releases-now runs-now = cond runs-now (cond releases-now 42 35) (cond releases-now 94 46)

-- the calls up to tick t and its releases
abbrev pub before_tick : TaskSet → Order → ℕ → ℕ → ℕ → List Call
before_tick s o i a t = course_until s o i a t ++ releases_below s o i a t (task_count s)

-- the marks of task j in the first ticks of the worst course of task i at offset a
unfoldable pub timeline : TaskSet → Order → ℕ → ℕ → ℕ → ℕ → List ℕ
timeline s o i a j zero = []
timeline s o i a j (suc t) = timeline s o i a j t ++ (mark (releases_at s o i a j t) (runs j (answer s o (play s o start (before_tick s o i a t)) (tick false))) ∷ [])

-- a course is told below an offset of 60,000, and drawn over up to 200 places
abbrev pub drawable : ℕ → ℕ → Bool
drawable a places = nat_lt a 60000 && nat_le places 200

-- whether it is drawn over all places that are lent; a missing task is refused, i first
abbrev pub Drawn : TaskSet → Order → ℕ → ℕ → ℕ → List ℕ → List ℕ → Result Bool Refusal → Type 0
Drawn s o i a j before after (Ok drew) = (i < task_count s) × (j < task_count s) × (drew ≡ drawable a (length before)) × (after ≡ cond drew (timeline s o i a j (length before)) before)
Drawn s o i a j before after (Err e) = (after ≡ before) × (((e ≡ NoTaskToJudge i) × (task_count s ≤ i)) ⊎ ((e ≡ NoTaskToJudge j) × (i < task_count s) × (task_count s ≤ j)))
