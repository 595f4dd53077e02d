-- The texts of calls and answers, as a program prints them. A job is written as its task's number and its release.
use Rattle.std.specs.Prelude.{ℕ, true, false, List, ◌++◌, codes, decimal}
use Rattle.dispatch.specs.declared.replies.Counts.{Counts}
use Rattle.dispatch.specs.declared.replies.Event.{Event}
use Rattle.dispatch.specs.declared.replies.Event.TheVariants as event
use Rattle.dispatch.specs.declared.replies.Reply.{Reply}
use Rattle.dispatch.specs.declared.replies.Reply.TheVariants as reply
use Rattle.dispatch.specs.declared.replies.Ticked.{Ticked}
use Rattle.dispatch.specs.declared.replies.Ticked.TheVariants as ticked

abbrev pub event_text : Event → List ℕ
event_text (event.Release j) = codes "release " ++ decimal j
event_text (event.Tick false) = codes "tick"
event_text (event.Tick true) = codes "tick done"
event_text (event.Look j) = codes "look " ++ decimal j

abbrev pub ticked_text : Ticked → List ℕ
ticked_text ticked.Idle = codes "none"
ticked_text (ticked.Ran j r) = decimal j ++ codes "@" ++ decimal r ++ codes " runs"
ticked_text (ticked.Finished j r response) = decimal j ++ codes "@" ++ decimal r ++ codes " finishes" ++ codes " after " ++ decimal response

abbrev pub counts_text : Counts → List ℕ
counts_text c = codes "accepted " ++ decimal c.accepted ++ codes " finished " ++ decimal c.finished ++ codes " waiting " ++ decimal c.waiting ++ codes " missed " ++ decimal c.missed ++ codes " longest " ++ decimal c.longest

abbrev pub reply_text : Reply → List ℕ
reply_text (reply.Released time) = codes "at " ++ decimal time
reply_text (reply.Ticked what) = ticked_text what
reply_text (reply.Looked counts) = counts_text counts
