use Rattle.std.proofs.Common.{◌+◌}
use Rattle.dispatch.proofs.Queues.{queue_push}
use Rattle.dispatch.proofs.line.Line.push.Goals as goal

pub returns : goal.returns
returns c =
    let l = c.args.self in
    λ k. record { waiting = queue_push l c.args.time c.requires.room k; free = c.args.time + c.args.task.period; finished = l.finished; missed = l.missed; longest = l.longest }
