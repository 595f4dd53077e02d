-- What a judged replay writes: the reference machine's answers to the calls, or nothing where the judgement is refused.
use Rattle.std.specs.Prelude.{◌≡◌, List, Ok, Err, Result}
use Rattle.table.specs.Rules.{TaskSet}
use Rattle.table.specs.declared.refusal.Refusal.{Refusal}
use Rattle.policy.specs.Order.{Order}
use Rattle.theory.specs.Machine.{start, answers}
use Rattle.analysis.specs.declared.rows.Judgement.{Judgement}
use Rattle.dispatch.specs.Replayed.{calls_in, calls_of, answers_in}
use Rattle.dispatch.specs.declared.replies.Step.{Step}

abbrev pub Replayed : TaskSet → Order → List Step → List Step → Result Judgement Refusal → Type 0
Replayed s o before after (Ok j) = (calls_in after ≡ calls_in before) × (answers_in after ≡ answers s o start (calls_of before))
Replayed s o before after (Err e) = after ≡ before
