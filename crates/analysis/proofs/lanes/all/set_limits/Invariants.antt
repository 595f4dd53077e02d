use Rattle.std.proofs.Common.{◌≡◌, ◌++◌, map, take, drop}
use Rattle.analysis.specs.Lanes.{limited}
use Rattle.analysis.proofs.lanes.all.set_limits.Given as goal

abbrev pub invariant-loop-lane : goal.invariant-loop-lane
invariant-loop-lane l = l.lanes ≡ map (limited l.a) (take l.lane-index l.initial.lanes) ++ drop l.lane-index l.initial.lanes
