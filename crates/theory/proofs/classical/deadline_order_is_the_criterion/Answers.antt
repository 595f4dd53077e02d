use Rattle.theory.proofs.DeadlinePublished.{deadline_as_published}
use Rattle.theory.proofs.classical.deadline_order_is_the_criterion.Goals as goal

pub returns : goal.returns
returns c = deadline_as_published
