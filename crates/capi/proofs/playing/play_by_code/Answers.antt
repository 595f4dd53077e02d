use Rattle.std.proofs.Common.{sym, ap, ◌∙◌, subst}
use Rattle.table.specs.Model.{content}
use Rattle.policy.specs.Orders.{fixed_order, deadline_order, bands_order}
use Rattle.policy.specs.Chosen.{order_of}
use Rattle.capi.specs.Played.{Played}
use Rattle.capi.proofs.playing.play_by_code.Goals as goal

pub returns-in-Bands : goal.returns-in-Bands
returns-in-Bands c =
    let s = content c.args.table.now in
    let bands = ap (λ k. bands_order k (fixed_order s) (deadline_order s)) (c.new.ensures.number ∙ c.band.ensures) in
    let chosen = ap (λ p. order_of p s) (sym c.in-Bands.is ∙ c.policy.ensures) in
    subst (λ o. Played s o c.args.steps.now c.play-in-Bands.new.steps) (bands ∙ chosen) c.play-in-Bands.ensures
