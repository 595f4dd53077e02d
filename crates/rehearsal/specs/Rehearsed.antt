-- What the worst course of a task shows when it is played, and what it has to show where the table is admitted.
use Rattle.std.specs.Prelude.{◌≡◌, ℕ, ◌+◌, ◌<◌, ◌≤◌, Bool, cond, ◌&&◌, List, Some, None, Ok, Err, Option, Result, nat_le, nat_lt}
use Rattle.table.specs.Rules.{TaskSet, task_count}
use Rattle.table.specs.declared.refusal.Refusal.{Refusal}
use Rattle.table.specs.declared.refusal.Refusal.TheVariants.{NoTaskToJudge}
use Rattle.policy.specs.Order.{Order}
use Rattle.theory.specs.Machine.{start, answers}
use Rattle.theory.specs.Course.{lead, worst_course}
use Rattle.analysis.specs.Judged.{Given, row_at}
use Rattle.analysis.specs.Promised.{IsLate, RowsBound, RowsAttained, VerdictExact}
use Rattle.analysis.specs.declared.rows.Row.{Row}
use Rattle.analysis.specs.declared.rows.Judgement.{Judgement}
use Rattle.rehearsal.specs.Seen.{seen}

-- a course is told below an offset of 60,000, and a clock holds 4,000,000,000 ticks
abbrev pub playable : Row → Bool
playable row = nat_lt row.offset 60000 && nat_le row.response 4000000000

-- the response that the reference machine tells of the job released at lead + a in the worst course of task i at offset a, up to r after that release
abbrev pub shown : TaskSet → Order → ℕ → ℕ → ℕ → Option ℕ
shown s o i a r = seen i (lead s o i a + a) (answers s o start (worst_course s o i a r))

-- a row that is out of range shows nothing; a missing task is refused
abbrev pub Rehearsed : TaskSet → Order → ℕ → Row → Result (Option ℕ) Refusal → Type 0
Rehearsed s o i row (Ok got) = (i < task_count s) × (got ≡ cond (playable row) (shown s o i row.offset row.response) None)
Rehearsed s o i row (Err e) = (e ≡ NoTaskToJudge i) × (task_count s ≤ i)

-- played from the row of an admitted table, a task's worst course shows the response of the row
abbrev pub AsPromised : TaskSet → Order → ℕ → Row → Result (Option ℕ) Refusal → Type 0
AsPromised s o i row got = (before rows : List Row) (j : Judgement) → Given s o before rows j → (IsLate j.verdict → ⊥) → i < task_count s → row ≡ row_at rows i → got ≡ Ok (Some row.response)

-- every judgement that is given for the task set under this order holds in every run: its rows bound, its rows are attained where it is admitted, and it is late exactly when some list of calls misses a deadline
abbrev pub HoldsInRuns : TaskSet → Order → Type 0
HoldsInRuns s o = (before rows : List Row) (j : Judgement) → Given s o before rows j → RowsBound s o rows × RowsAttained s o rows j.verdict × VerdictExact s o j.verdict
