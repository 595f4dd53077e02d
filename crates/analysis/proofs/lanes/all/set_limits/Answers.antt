use Rattle.std.proofs.Common.{◌≡◌, ℕ, ◌≤◌, get_or, set, ap, ◌∙◌, arith}
use Rattle.std.proofs.Math.Bridge.{le_prop}
use Rattle.std.proofs.lemmas.List.{get_or_default}
use Rattle.std.proofs.lemmas.List.Edits.{map_over_more}
use Rattle.analysis.specs.Lanes.{limited, lane_limit}
use Rattle.analysis.specs.declared.lanes.Lane.{Lane}
use Rattle.analysis.proofs.lanes.all.set_limits.Goals as goal

-- a lane with a new limit, whatever shows its ranges
limited_is : (a : ℕ) (l : Lane) (n : ℕ) (c : l.cost ≤ 4096) (p : 1 ≤ l.period) (q : l.period ≤ 65535) (r : l.lead ≤ 200000) → n ≡ lane_limit l a → ◌≡◌ {A = Lane} (record { cost = l.cost; period = l.period; lead = l.lead; limit = n; cost_high = c; period_low = p; period_high = q; lead_high = r }) (limited a l)
limited_is a l n c p q r e = λ k. record { cost = l.cost; period = l.period; lead = l.lead; limit = e k; cost_high = le_prop c l.cost_high k; period_low = le_prop p l.period_low k; period_high = le_prop q l.period_high k; lead_high = le_prop r l.lead_high k }

pub loop-lane-preserved : goal.loop-lane-preserved
loop-lane-preserved c =
    let ls = c.loop-lane.lanes in
    let j = c.loop-lane.lane-index in
    let x = get_or ls j c.lane-item.result in
    ap (λ y. set ls j y) (limited_is c.args.a x c.limit_at-lane.result _ _ _ _ c.limit_at-lane.ensures)
    ∙ map_over_more (limited c.args.a) c.args.lanes.now ls j x c.loop-lane-test.true c.loop-lane.invariant (get_or_default ls j c.lane-item.result x (omega (arith, c.loop-lane.auto.lanes, c.loop-lane-test.true)))
