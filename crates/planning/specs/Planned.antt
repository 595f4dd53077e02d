-- What the planner answers to a table file: the refusal of reading, or the report under the policy that the file asks for.
use Rattle.std.specs.Prelude.{◌≡◌, ℕ, List, Ok, Err, Result}
use Rattle.table.specs.Rules.{TaskSet}
use Rattle.table.specs.declared.refusal.Refusal.{Refusal}
use Rattle.policy.specs.Chosen.{chosen_order}
use Rattle.analysis.specs.declared.rows.Row.{Row}
use Rattle.tablefile.specs.Fields.{Read}
use Rattle.tablefile.specs.Format.{file}
use Rattle.report.specs.Reported.{Reported}

abbrev pub PlannedFrom : Read TaskSet → List Row → List Row → List ℕ → List ℕ → Result ℕ Refusal → Type 0
PlannedFrom (Ok s) rows rows' out out' r = Reported s (chosen_order s) rows rows' out out' r
PlannedFrom (Err why) rows rows' out out' r = (r ≡ Err why) × (rows' ≡ rows) × (out' ≡ out)

abbrev pub Planned : List ℕ → List Row → List Row → List ℕ → List ℕ → Result ℕ Refusal → Type 0
Planned input rows rows' out out' r = PlannedFrom (file input) rows rows' out out' r
