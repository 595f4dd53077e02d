use Rattle.std.proofs.Common.{take}
use Rattle.dispatch.proofs.Queues.{queue_on}
use Rattle.dispatch.proofs.line.Line.go_on.Goals as goal

pub returns : goal.returns
returns c = λ p ps t later e.
    let l = c.args.self in
    λ k. record { waiting = queue_on l.ran (take l.len l.releases) p ps e k; free = l.free; finished = l.finished; missed = l.missed; longest = l.longest }
