use Rattle.planning.proofs.OneAnswer.{one_answer}
use Rattle.planning.proofs.answer_is_unique.Goals as goal

pub returns : goal.returns
returns c = one_answer c.analysis_is_unique.ensures.busy c.analysis_is_unique.ensures.worst
