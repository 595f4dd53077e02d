-- What the published analyses say of a judgement under the policy that the table asks for.
use Rattle.std.specs.Prelude.{ℕ, ◌<◌, List}
use Rattle.table.specs.Rules.{TaskSet, task_count}
use Rattle.table.specs.declared.kinds.PolicyCode.{PolicyCode}
use Rattle.table.specs.declared.kinds.PolicyCode.TheVariants.{Fixed, Deadline, Arrival, Bands}
use Rattle.theory.specs.FixedPriority.{LevelResponse}
use Rattle.theory.specs.DemandCriterion.{Criterion}
use Rattle.analysis.specs.Judged.{row_at}
use Rattle.analysis.specs.Promised.{IsLate}
use Rattle.analysis.specs.declared.rows.Row.{Row}
use Rattle.analysis.specs.declared.rows.Verdict.{Verdict}

-- fixed priorities: each reported response is the greatest that the recurrences give; deadline order: the demand criterion is enough
abbrev pub OwnAnalysis : PolicyCode → TaskSet → List Row → Verdict → Type 0
OwnAnalysis Fixed s rows v = (i : ℕ) → i < task_count s → (level : ℕ) × LevelResponse s i (row_at rows i).response level
OwnAnalysis Deadline s rows v = Criterion s → IsLate v → ⊥
OwnAnalysis Arrival s rows v = Unit {0}
OwnAnalysis Bands s rows v = Unit {0}

-- whatever the policy, a table that is admitted meets the criterion
pub record AsPublished (s : TaskSet) (rows : List Row) (v : Verdict) : Type 0 where
  pub own : OwnAnalysis s.policy s rows v
  pub needed : (IsLate v → ⊥) → Criterion s
