use Rattle.theory.proofs.CriterionNeeded.{criterion_needed}
use Rattle.theory.proofs.classical.criterion_is_needed.Goals as goal

pub returns : goal.returns
returns c = criterion_needed
