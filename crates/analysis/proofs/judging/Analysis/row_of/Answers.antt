use Rattle.std.proofs.Common.{ℕ, ◌<◌, ◌≤◌, refl, ap, length-take-le, arith, rules}
use Rattle.table.specs.Model.{content}
use Rattle.table.specs.Sporadic.{Sporadic}
use Rattle.table.specs.Rules.{task_count}
use Rattle.analysis.specs.Lanes.{no_lane, lane_at}
use Rattle.analysis.specs.Reaches.{LaneTo}
use Rattle.analysis.proofs.Filling.{few_tasks, found_ranges, made_by}
use Rattle.policy.proofs.Lawfulness.{table_laws}
use Rattle.analysis.proofs.OneRow.{own_is, front_fits, front_worst}
use Rattle.analysis.specs.declared.window.Own.{Own}
use Rattle.analysis.proofs.judging.Analysis.row_of.Goals as goal

pub invariant_of-own : goal.invariant_of-own
invariant_of-own g c =
    let r = found_ranges c.args.self.now.table.now c.args.i c.in-Some.task c.in-Some.ensures in
    record { cost_low = r.cost_low; cost_high = r.cost_high; period_low = r.period_low }

pub slice_bounds-lanes-end : goal.slice_bounds-lanes-end
slice_bounds-lanes-end g c =
    let few : c.count.result ≤ 24 = omega (arith, few_tasks c.args.self.now.table.now, c.count.ensures) in search rules

pub worst_response-response-requires : goal.worst_response-response-requires
worst_response-response-requires g c =
    let t = c.args.self.now.table.now in
    let s = content t in
    let p = c.args.self.now.policy.now in
    let o = g.P.Policy.meaning p s in
    let met = g.met.P.Policy in
    let laws = table_laws g.P.Policy.meaning met.total met.transitive met.earlier met.range met.rule p t in
    let found = c.in-Some.ensures in
    let items = c.from_fn-lanes.ensures.items in
    let each : (j : ℕ) → j < task_count s → LaneTo s o c.args.i j (lane_at c.from_fn-lanes.result j) = λ j h. made_by _ (λ k l. k < task_count s → LaneTo s o c.args.i k l) no_lane _ c.from_fn-lanes.result (λ k l q call. search rules) 24 0 items.each j (omega arith) (omega (arith, few_tasks t)) h in
    let r = found_ranges t c.args.i c.in-Some.task found in
    let w : Own = record { mode = c.mode.result; cost = c.in-Some.task.cost; period = c.in-Some.task.period; cost_low = r.cost_low; cost_high = r.cost_high; period_low = r.period_low } in
    let short = length-take-le c.count.result c.from_fn-lanes.result (omega (arith, few_tasks t, c.count.ensures, items.long)) in
    record {
      few = omega (arith, few_tasks t, c.count.ensures, short);
      short = c.args.self.now.short;
      some = c.requires.from;
      fits = front_fits t o laws c.args.i found.0 c.from_fn-lanes.result c.count.result items.long c.count.ensures each c.args.self.now.busy c.requires c.args.self.now.short w (own_is t c.args.i c.in-Some.task w c.mode.ensures refl refl found.1);
    }

pub returns : goal.returns
returns g c =
    let t = c.args.self.now.table.now in
    let s = content t in
    let p = c.args.self.now.policy.now in
    let o = g.P.Policy.meaning p s in
    let met = g.met.P.Policy in
    let laws = table_laws g.P.Policy.meaning met.total met.transitive met.earlier met.range met.rule p t in
    let found = c.in-Some.ensures in
    let items = c.from_fn-lanes.ensures.items in
    let each : (j : ℕ) → j < task_count s → LaneTo s o c.args.i j (lane_at c.from_fn-lanes.result j) = λ j h. made_by _ (λ k l. k < task_count s → LaneTo s o c.args.i k l) no_lane _ c.from_fn-lanes.result (λ k l q call. search rules) 24 0 items.each j (omega arith) (omega (arith, few_tasks t)) h in
    let r = found_ranges t c.args.i c.in-Some.task found in
    let w : Own = record { mode = c.mode.result; cost = c.in-Some.task.cost; period = c.in-Some.task.period; cost_low = r.cost_low; cost_high = r.cost_high; period_low = r.period_low } in
    λ known. (front_worst t o laws c.args.i found.0 c.from_fn-lanes.result c.count.result items.long c.count.ensures each c.args.self.now.busy c.requires c.args.self.now.short w (own_is t c.args.i c.in-Some.task w c.mode.ensures refl refl found.1) c.worst_response-response.result.0 c.worst_response-response.result.1 c.worst_response-response.ensures, ap (λ (x : Sporadic). x.deadline) found.1)
