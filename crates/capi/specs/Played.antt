-- A list of calls played on a fresh run of a table file.
use Rattle.std.specs.Prelude.{◌≡◌, ℕ, List, map, length, Ok, Err, Result}
use Rattle.table.specs.Rules.{TaskSet}
use Rattle.table.specs.declared.refusal.Refusal.{Refusal}
use Rattle.policy.specs.Order.{Order}
use Rattle.theory.specs.Machine as machine
use Rattle.policy.specs.Chosen.{chosen_order}
use Rattle.tablefile.specs.Fields.{Read}
use Rattle.tablefile.specs.Format.{file}
use Rattle.capi.specs.Outcomes.{outcome_of}
use Rattle.capi.specs.Steps.{call_of, reply_of}
use Rattle.capi.specs.declared.outcome.Outcome.{Outcome}
use Rattle.capi.specs.declared.steps.Call.{Call}
use Rattle.capi.specs.declared.steps.Reply.{Reply}
use Rattle.capi.specs.declared.steps.Step.{Step}

abbrev pub calls_in : List Step → List Call
calls_in steps = map (λ (p : Step). p.call) steps

abbrev pub calls_of : List Step → List machine.Call
calls_of steps = map (λ (p : Step). call_of p.call) steps

abbrev pub replies_in : List Step → List Reply
replies_in steps = map (λ (p : Step). p.reply) steps

-- the calls stay, and beside each stands the reference machine's answer
pub record Played (s : TaskSet) (o : Order) (before after : List Step) : Type 0 where
  pub calls : calls_in after ≡ calls_in before
  pub replies : replies_in after ≡ map reply_of (machine.answers s o machine.start (calls_of before))

abbrev pub PlayedFrom : Read TaskSet → List Step → List Step → Result ℕ Refusal → Type 0
PlayedFrom (Ok s) before after given = (given ≡ Ok (length before)) × Played s (chosen_order s) before after
PlayedFrom (Err why) before after given = (given ≡ Err why) × (after ≡ before)

-- the refusal of reading, or the run under the policy that the file asks for
abbrev pub PlayedFile : List ℕ → List Step → List Step → Result ℕ Refusal → Type 0
PlayedFile input before after given = PlayedFrom (file input) before after given

abbrev pub PlayedTold : List ℕ → List Step → List Step → Outcome → Type 0
PlayedTold input before after r = (given : Result ℕ Refusal) × PlayedFile input before after given × (r ≡ outcome_of given)
