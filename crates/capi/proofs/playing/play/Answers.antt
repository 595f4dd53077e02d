use Rattle.std.proofs.Common.{◌<◌, ◌≤◌, [], length, get_or, sym, refl, ◌∙◌, subst, arith}
use Rattle.table.specs.Model.{content}
use Rattle.dispatch.specs.Replies as replies
use Rattle.dispatch.specs.Replies.{reply_told}
use Rattle.dispatch.specs.Represents.{Answered, Answers}
use Rattle.capi.specs.Played.{Played}
use Rattle.capi.specs.declared.steps.Step.{Step}
use Rattle.capi.proofs.Plays.{played_none, played_all, play_step}
use Rattle.capi.proofs.playing.play.Goals as goal

-- what a read past the end would give
abbrev no_step : Step
no_step = record { call = record { kind = 0; task = 0 }; reply = record { kind = 0; first = 0; second = 0; third = 0; fourth = 0; fifth = 0 } }

pub loop-step-init : goal.loop-step-init
loop-step-init g c =
    let run = c.new-run.result in
    let new = c.new-run.ensures in (
      refl,
      refl,
      subst (λ o. Answered o run.station []) (λ k. g.P.Policy.meaning (sym new.policy k) (content (sym new.table k))) new.answered,
      played_none (content run.station.table) (g.P.Policy.meaning run.policy (content run.station.table)) c.args.steps.now,
    )

pub loop-step-preserved : goal.loop-step-preserved
loop-step-preserved g c =
    let first = c.new-run.result in
    let before = c.args.steps.now in
    let after = c.loop-step.steps in
    let run = c.loop-step.run in
    let later = c.call.new.self in
    let inv = c.loop-step.invariant in
    let made = c.call.ensures in
    let here : c.loop-step.step-index < length before = omega arith in
    let call = (get_or after c.loop-step.step-index no_step).call in
    let x : Step = record { call = call; reply = c.from-step.result } in
    let moved = subst (λ o. Answers o run.station later.station (replies.call_of c.from.result) (reply_told c.call.result)) (λ k. g.P.Policy.meaning (inv.0 k) (content (inv.1 k))) made.answered in
    let next = play_step first.station.table (g.P.Policy.meaning first.policy (content first.station.table)) before after c.loop-step.step-index run.station later.station x no_step (replies.call_of c.from.result) (reply_told c.call.result) here c.loop-step.auto.steps inv.1 refl c.from.ensures c.from-step.ensures moved inv.2 inv.3 in
    (made.policy ∙ inv.0, made.table ∙ inv.1, next.0, next.1)

pub returns : goal.returns
returns g c =
    let run = c.new-run.result in
    let new = c.new-run.ensures in
    let before = c.args.steps.now in
    let end : length before ≤ c.loop-step.step-index = omega arith in
    let all = played_all (content run.station.table) (g.P.Policy.meaning run.policy (content run.station.table)) before c.loop-step.steps c.loop-step.step-index end c.loop-step.auto.steps c.loop-step.invariant.3 in
    subst (λ (b : Type 0). b) (λ k. Played (content (new.table k)) (g.P.Policy.meaning (new.policy k) (content (new.table k))) before c.loop-step.steps) all
