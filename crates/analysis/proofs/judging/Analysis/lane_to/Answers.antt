use Rattle.std.proofs.Common.{◌≤◌, rules}
use Rattle.analysis.proofs.Filling.{found_ranges}
use Rattle.analysis.proofs.judging.Analysis.lane_to.Goals as goal

pub invariant_of-result-2 : goal.invariant_of-result-2
invariant_of-result-2 g c =
    let r = found_ranges c.args.self.now.table.now c.args.j c.in-Some.task c.in-Some.ensures in
    let high : c.in-Some.task.cost ≤ 4096 = r.cost_high in
    record { cost_high = search rules; period_low = r.period_low; period_high = r.period_high; lead_high = c.lead_of.ensures.bound }
