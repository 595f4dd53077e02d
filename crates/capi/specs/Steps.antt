-- Calls and answers of the reference machine as plain numbers.
use Rattle.std.specs.Prelude.{ℕ, true, false, cond, ◌==◌}
use Rattle.table.specs.Refusals.{refusal_number}
use Rattle.table.specs.declared.refusal.Refusal.{Refusal}
use Rattle.theory.specs.Machine as machine
use Rattle.capi.specs.Outcomes.{detail_of}
use Rattle.capi.specs.declared.steps.Call.{Call}
use Rattle.capi.specs.declared.steps.Reply.{Reply}

-- 0 releases, 1 ticks, 2 ticks with done, any other looks
abbrev pub call_of : Call → machine.Call
call_of c = cond (c.kind == 0) (machine.release c.task) (cond (c.kind == 1) (machine.tick false) (cond (c.kind == 2) (machine.tick true) (machine.look c.task)))

abbrev pub reply : ℕ → ℕ → ℕ → ℕ → Reply
reply kind a b c = record { kind = kind; first = a; second = b; third = c; fourth = 0; fifth = 0 }

abbrev pub refused : Refusal → Reply
refused why = reply 0 (refusal_number why) (detail_of why) 0

abbrev pub reply_of : machine.Answer → Reply
reply_of (machine.Refused why) = refused why
reply_of (machine.Released time) = reply 1 time 0 0
reply_of machine.Idle = reply 2 0 0 0
reply_of (machine.Ran j r) = reply 3 j r 0
reply_of (machine.Finished j r response) = reply 4 j r response
reply_of (machine.Looked n) = record { kind = 5; first = n.accepted; second = n.finished; third = n.waiting; fourth = n.missed; fifth = n.longest }
