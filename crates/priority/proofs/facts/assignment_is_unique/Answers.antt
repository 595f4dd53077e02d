use Rattle.priority.proofs.Unique.{one_order, one_rank, not_both}
use Rattle.priority.proofs.facts.assignment_is_unique.Goals as goal

pub returns : goal.returns
returns c = record { order = one_order; rank = one_rank; either = not_both }
