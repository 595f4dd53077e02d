-- What the calls on a table file answer and write.
use Rattle.std.specs.Prelude.{◌≡◌, ℕ, List, replicate, Ok, Err, Result}
use Rattle.table.specs.Rules.{TaskSet}
use Rattle.table.specs.declared.refusal.Refusal.{Refusal}
use Rattle.analysis.specs.Judged.{Judged, no_row}
use Rattle.analysis.specs.declared.rows.Judgement.{Judgement}
use Rattle.analysis.specs.declared.rows.Row.{Row}
use Rattle.policy.specs.Chosen.{chosen_order}
use Rattle.planning.specs.Planned.{Planned}
use Rattle.tablefile.specs.Fields.{Read}
use Rattle.tablefile.specs.Format.{file}
use Rattle.capi.specs.Findings.{finding_of}
use Rattle.capi.specs.Outcomes.{outcome_of}
use Rattle.capi.specs.declared.finding.Finding.{Finding}
use Rattle.capi.specs.declared.outcome.Outcome.{Outcome}

-- the planner's answer over 24 rows, as two numbers
abbrev pub ReportTold : List ℕ → List ℕ → List ℕ → Outcome → Type 0
ReportTold input out out' r = (rows : List Row) × (given : Result ℕ Refusal) × Planned input (replicate 24 no_row) rows out out' given × (r ≡ outcome_of given)

abbrev pub JudgedFrom : Read TaskSet → List Row → List Row → Result Judgement Refusal → Type 0
JudgedFrom (Ok s) rows rows' given = Judged s (chosen_order s) rows rows' given
JudgedFrom (Err why) rows rows' given = (given ≡ Err why) × (rows' ≡ rows)

-- the refusal of reading, or the judgement under the policy that the file asks for
abbrev pub JudgedFile : List ℕ → List Row → List Row → Result Judgement Refusal → Type 0
JudgedFile input rows rows' given = JudgedFrom (file input) rows rows' given

abbrev pub FindingTold : List ℕ → List Row → List Row → Finding → Type 0
FindingTold input rows rows' r = (given : Result Judgement Refusal) × JudgedFile input rows rows' given × (r ≡ finding_of given)
