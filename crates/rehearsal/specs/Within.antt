-- What the answers to a list of calls keep to, where a judgement was given.
use Rattle.std.specs.Prelude.{ℕ, ◌≤◌, List}
use Rattle.table.specs.Rules.{TaskSet, task_at}
use Rattle.table.specs.declared.refusal.Refusal.TheVariants.{QueueFull}
use Rattle.theory.specs.Lists.{In}
use Rattle.theory.specs.Machine.{Answer, Finished, Refused}
use Rattle.analysis.specs.Judged.{row_at}
use Rattle.analysis.specs.Promised.{IsLate}
use Rattle.analysis.specs.declared.rows.Row.{Row}
use Rattle.analysis.specs.declared.rows.Verdict.{Verdict}

-- no answer tells a response longer than that of the row of its task
abbrev pub WithinRows : List Row → List Answer → Type 0
WithinRows rows told = (i release response : ℕ) → In (Finished i release response) told → response ≤ (row_at rows i).response

-- where the table is admitted: no answer tells a missed deadline, and no release found 8 jobs of its task waiting
abbrev pub OnTime : TaskSet → Verdict → List Answer → Type 0
OnTime s v told = (IsLate v → ⊥)
    → ((i release response : ℕ) → In (Finished i release response) told → response ≤ (task_at s i).deadline)
    × ((k : ℕ) → In (Refused (QueueFull k)) told → ⊥)
