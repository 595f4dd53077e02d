use Rattle.std.proofs.Common.{◌≡◌, ◌+◌, ◌-◌, max, cond, ltb, get_or, ap, ◌∙◌, arith}
use Rattle.dispatch.proofs.Queues.{queue_shift}
use Rattle.dispatch.proofs.line.Line.finish.Goals as goal

pub returns : goal.returns
returns c = λ p ps e.
    let l = c.args.self in
    let s = queue_shift l.ran l.len l.releases p ps l.room l.few e in
    let first : get_or l.releases 0 0 ≡ p.release = s.1 in
    let r : c.saturating_sub-response.result ≡ c.args.later - p.release = omega arith in
    let late : c.missed_by-late.result ≡ cond (ltb c.args.task.deadline (c.args.later - p.release)) 1 0 = c.missed_by-late.ensures.value ∙ ap (λ n. cond (ltb c.args.task.deadline n) 1 0) r in
    let most : c.max.result ≡ max l.longest (c.args.later - p.release) = omega arith in
    λ k. record { waiting = s.0 k; free = l.free; finished = l.finished + 1; missed = l.missed + late k; longest = most k }
