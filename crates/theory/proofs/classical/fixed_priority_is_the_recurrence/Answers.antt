use Rattle.theory.proofs.FixedPublished.{fixed_as_published}
use Rattle.theory.proofs.classical.fixed_priority_is_the_recurrence.Goals as goal

pub returns : goal.returns
returns c = fixed_as_published
