use Rattle.std.proofs.Common.{arith}
use Rattle.analysis.proofs.Filling.{found_ranges}
use Rattle.analysis.proofs.busy.full_lane.Goals as goal

pub invariant_of-result-2 : goal.invariant_of-result-2
invariant_of-result-2 c =
    let r = found_ranges c.args.table.now c.args.j c.in-Some.task c.in-Some.ensures in
    record { cost_high = r.cost_high; period_low = r.period_low; period_high = r.period_high; lead_high = omega arith }
