-- The run's calls and answers as those of the reference machine.
use Rattle.std.specs.Prelude.{ℕ, Ok, Err, Result}
use Rattle.table.specs.declared.refusal.Refusal.{Refusal}
use Rattle.theory.specs.Machine as machine
use Rattle.dispatch.specs.declared.replies.Counts.{Counts}
use Rattle.dispatch.specs.declared.replies.Event.{Event}
use Rattle.dispatch.specs.declared.replies.Event.TheVariants as event
use Rattle.dispatch.specs.declared.replies.Reply.{Reply}
use Rattle.dispatch.specs.declared.replies.Reply.TheVariants as reply
use Rattle.dispatch.specs.declared.replies.Ticked.{Ticked}
use Rattle.dispatch.specs.declared.replies.Ticked.TheVariants as ticked

abbrev pub call_of : Event → machine.Call
call_of (event.Release j) = machine.release j
call_of (event.Tick done) = machine.tick done
call_of (event.Look j) = machine.look j

abbrev pub counts_told : Counts → machine.Counts
counts_told c = record { accepted = c.accepted; finished = c.finished; waiting = c.waiting; missed = c.missed; longest = c.longest }

abbrev pub ticked_told : Ticked → machine.Answer
ticked_told ticked.Idle = machine.Idle
ticked_told (ticked.Ran j r) = machine.Ran j r
ticked_told (ticked.Finished j r response) = machine.Finished j r response

abbrev pub reply_told : Result Reply Refusal → machine.Answer
reply_told (Ok (reply.Released time)) = machine.Released time
reply_told (Ok (reply.Ticked what)) = ticked_told what
reply_told (Ok (reply.Looked counts)) = machine.Looked (counts_told counts)
reply_told (Err why) = machine.Refused why

-- what each of the three calls returns, as an answer
abbrev pub release_told : Result ℕ Refusal → machine.Answer
release_told (Ok time) = machine.Released time
release_told (Err why) = machine.Refused why

abbrev pub tick_told : Result Ticked Refusal → machine.Answer
tick_told (Ok what) = ticked_told what
tick_told (Err why) = machine.Refused why

abbrev pub look_told : Result Counts Refusal → machine.Answer
look_told (Ok counts) = machine.Looked (counts_told counts)
look_told (Err why) = machine.Refused why
