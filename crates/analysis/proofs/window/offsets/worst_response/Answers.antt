use Rattle.std.proofs.Common.{◌≡◌, ℕ, ◌+◌, ◌≤◌, map, ap, ◌∙◌, subst, arith}
use Rattle.table.specs.declared.kinds.Mode.{Mode}
use Rattle.table.specs.declared.kinds.Mode.TheVariants.{NonPreemptive, Preemptive}
use Rattle.analysis.specs.Lanes.{limited, lanes_work}
use Rattle.analysis.specs.Own.{window_work, response_in, LaneResponse}
use Rattle.analysis.proofs.Bests.{so_far_more}
use Rattle.analysis.proofs.Windows.{limited_twice, least_same, same_window, offset_mono}
use Rattle.analysis.proofs.window.offsets.worst_response.Goals as goal

pub solve-last-requires : goal.solve-last-requires
solve-last-requires c =
    let w = c.args.own in
    let ls = c.args.lanes.now in
    let cur = c.loop-a.lanes in
    let a = c.loop-a.a in
    let inv = c.loop-a.invariant in
    record {
      few = omega (arith, c.requires.few, c.loop-a.auto.lanes);
      short = c.requires.short;
      inside = c.loop-a-test.true;
      fits = omega (arith, same_window w cur ls inv.0 a c.args.busy, c.requires.fits a c.loop-a-test.true);
      from = inv.2;
      low = λ v from covers. inv.3 v from (subst (λ ys. c.loop-a.last.work + lanes_work ys v ≤ v) (inv.0 a) covers);
    }

at_least_cost : (m : Mode) (cost a t : ℕ) → cost ≤ response_in m cost a t
at_least_cost Preemptive cost a t = omega arith
at_least_cost NonPreemptive cost a t = omega arith

pub loop-a-preserved : goal.loop-a-preserved
loop-a-preserved c =
    let w = c.args.own in
    let ls = c.args.lanes.now in
    let cur = c.loop-a.lanes in
    let a = c.loop-a.a in
    let inv = c.loop-a.invariant in
    let solved = c.solve-last.ensures in
    let at = c.solve-last.result.at in
    let here : LaneResponse w ls c.args.busy a c.response.result = (at, solved.inside, least_same 1 at (window_work w cur a) (window_work w ls a) (same_window w cur ls inv.0 a) solved.solved, c.response.ensures) in
    let some : 1 ≤ c.response.result = omega (arith, at_least_cost w.mode w.cost a at, c.response.ensures, w.cost_low) in (
      λ b. ap (map (limited b)) solved.lanes ∙ limited_twice a b cur ∙ inv.0 b,
      so_far_more (LaneResponse w ls c.args.busy) a c.loop-a.best.0 c.loop-a.best.1 c.response.result c.better-best.result.0 c.better-best.result.1 inv.1 here some c.better-best.ensures.longer c.better-best.ensures.first,
      solved.solved.from,
      (λ v from covers.
          let same : lanes_work (map (limited a) cur) v ≡ lanes_work (map (limited a) ls) v = ap (λ ys. lanes_work ys v) (inv.0 a) in
          let grows = offset_mono ls a (a + 1) v (omega arith) in
          solved.low v from (omega (arith, same, grows, covers, solved.work))),
    )
