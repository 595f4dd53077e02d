-- What the rows and the verdict of a judgement promise of every run, in the words of the reference machine.
use Rattle.std.specs.Prelude.{◌≡◌, ℕ, ◌+◌, ◌<◌, false, List, [], ◌∷◌, ◌++◌}
use Rattle.table.specs.Rules.{TaskSet, task_count}
use Rattle.table.specs.declared.refusal.Refusal.{Refusal}
use Rattle.policy.specs.Order.{Order}
use Rattle.theory.specs.Lists.{In}
use Rattle.theory.specs.Machine.{Work, Call, Answer, Refused, Finished, start, answers}
use Rattle.theory.specs.Course.{lead, worst_course}
use Rattle.theory.specs.Guarantee.{after, Misses}
use Rattle.analysis.specs.Judged.{row_at}
use Rattle.analysis.specs.declared.rows.Row.{Row}
use Rattle.analysis.specs.declared.rows.Verdict.{Verdict}
use Rattle.analysis.specs.declared.rows.Verdict.TheVariants.{Admitted, Late}

-- after every list of calls, no job is unfinished as long after its release as the response of its row
abbrev pub RowsBound : TaskSet → Order → List Row → Type 0
RowsBound s o rows = (calls : List Call) (w : Work) → In w (after s o calls).jobs → w.finished ≡ false → (after s o calls).time < w.release + (row_at rows w.task).response

-- the worst course of a task at the offset of its row: no call is refused, and its last answer tells the job that finishes with the response of the row
abbrev pub RowAttained : TaskSet → Order → ℕ → Row → Type 0
RowAttained s o i row =
    ((e : Refusal) → In (Refused e) (answers s o start (worst_course s o i row.offset row.response)) → ⊥)
    × ((before : List Answer) × (answers s o start (worst_course s o i row.offset row.response) ≡ before ++ (Finished i (lead s o i row.offset + row.offset) row.response ∷ [])))

abbrev pub IsLate : Verdict → Type 0
IsLate Admitted = ⊥
IsLate (Late k) = Unit {0}

-- where the table is admitted every row is attained
abbrev pub RowsAttained : TaskSet → Order → List Row → Verdict → Type 0
RowsAttained s o rows v = (IsLate v → ⊥) → (i : ℕ) → i < task_count s → RowAttained s o i (row_at rows i)

-- late exactly when some list of calls leaves a job unfinished at its deadline
abbrev pub VerdictExact : TaskSet → Order → Verdict → Type 0
VerdictExact s o v = (IsLate v → Misses s o) × (Misses s o → IsLate v)
