use Rattle.std.proofs.Common.{◌≡◌, ℕ, ◌+◌, ◌<◌, ◌≤◌, List, map, ap₂, arith}
use Rattle.analysis.specs.Lanes.{limited, lanes_work}
use Rattle.analysis.specs.Own.{window_work, own_work}
use Rattle.analysis.specs.declared.lanes.Lane.{Lane}
use Rattle.analysis.specs.declared.window.Own.{Own}
use Rattle.analysis.proofs.Windows.{solved_window, restart_low}
use Rattle.analysis.proofs.window.offsets.solve.Goals as goal

pub climb-requires : goal.climb-requires
climb-requires c = record {
  few = omega (arith, c.set_limits.auto.lanes, c.requires.few);
  light = c.own_work-work.ensures.light;
  short = c.requires.short;
}

-- the climbed work is the window's
same_work : (w : Own) (ls set : List Lane) (a work : ℕ) → set ≡ map (limited a) ls → work ≡ own_work w ls a → (v : ℕ) → work + lanes_work set v ≡ window_work w ls a v
same_work w ls set a work e f v = ap₂ (λ x ys. x + lanes_work ys v) f e

pub returns-in-Some : goal.returns-in-Some
returns-in-Some c =
    let w = c.args.own in
    let ls = c.args.lanes.now in
    let a = c.args.a in
    let at = c.in-Some.at in
    let work = c.own_work-work.result in
    let same : (v : ℕ) → work + lanes_work c.set_limits.new.lanes v ≡ window_work w ls a v = same_work w ls c.set_limits.new.lanes a work c.set_limits.ensures c.own_work-work.ensures.value in
    let climbed = c.in-Some.ensures in
    let begin = restart_low work c.args.last.work c.args.last.at c.restart-start.result (λ v. lanes_work (map (limited a) ls) v) c.restart-start.ensures c.requires.from c.requires.low in
    let first : (v : ℕ) → 1 ≤ v → window_work w ls a v ≤ v → at ≤ v = λ v from covers. climbed.3 v (begin.1 v from (omega (arith, covers, c.own_work-work.ensures.value))) (omega (arith, same v, covers)) in
    record {
      lanes = c.set_limits.ensures;
      work = c.own_work-work.ensures.value;
      solved = solved_window w ls a at (omega (arith, begin.0, climbed.0)) (omega (arith, same at, climbed.2)) first;
      inside = climbed.1;
      low = first;
    }

-- the busy period covers its window, so a climb up to it finds a solution
never : (w : Own) (ls set : List Lane) (a busy work start : ℕ) → set ≡ map (limited a) ls → work ≡ own_work w ls a → window_work w ls a busy ≤ busy → 1 ≤ busy → ((v : ℕ) → 1 ≤ v → work + lanes_work (map (limited a) ls) v ≤ v → start ≤ v) → ((v : ℕ) → start ≤ v → work + lanes_work set v ≤ v → busy < v) → ⊥
never w ls set a busy work start e f covers some begin none =
    let same = same_work w ls set a work e f busy in
    let past : busy < busy = none busy (begin busy some (omega (arith, covers, f))) (omega (arith, same, covers)) in
    omega arith

pub returns-in-None : goal.returns-in-None
returns-in-None c =
    let w = c.args.own in
    let ls = c.args.lanes.now in
    let a = c.args.a in
    let work = c.own_work-work.result in
    let begin = restart_low work c.args.last.work c.args.last.at c.restart-start.result (λ v. lanes_work (map (limited a) ls) v) c.restart-start.ensures c.requires.from c.requires.low in
    absurd (never w ls c.set_limits.new.lanes a c.args.busy work c.restart-start.result c.set_limits.ensures c.own_work-work.ensures.value c.requires.fits (omega (arith, c.requires.inside)) begin.1 c.in-None.ensures)
