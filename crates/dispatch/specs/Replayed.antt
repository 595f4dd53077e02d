-- The calls and the answers of a list of steps.
use Rattle.std.specs.Prelude.{List, map}
use Rattle.theory.specs.Machine.{Call, Answer}
use Rattle.dispatch.specs.Replies.{call_of, reply_told}
use Rattle.dispatch.specs.declared.replies.Event.{Event}
use Rattle.dispatch.specs.declared.replies.Step.{Step}

abbrev pub calls_in : List Step → List Event
calls_in steps = map (λ (p : Step). p.call) steps

-- as the reference machine takes and gives them
abbrev pub calls_of : List Step → List Call
calls_of steps = map (λ (p : Step). call_of p.call) steps

abbrev pub answers_in : List Step → List Answer
answers_in steps = map (λ (p : Step). reply_told p.answer) steps
