use Rattle.std.proofs.Common.{◌≡◌, ℕ, ◌+◌, ◌≤◌, map}
use Rattle.analysis.specs.Lanes.{limited, lanes_work}
use Rattle.analysis.specs.Own.{LaneResponse}
use Rattle.analysis.proofs.Bests.{SoFar}
use Rattle.analysis.proofs.window.offsets.worst_response.Given as goal

abbrev pub invariant-loop-a : goal.invariant-loop-a
invariant-loop-a l = ((b : ℕ) → map (limited b) l.lanes ≡ map (limited b) l.initial.lanes) × SoFar (LaneResponse l.own l.initial.lanes l.busy) l.a l.best.0 l.best.1 × (1 ≤ l.last.at) × ((v : ℕ) → 1 ≤ v → l.last.work + lanes_work (map (limited l.a) l.initial.lanes) v ≤ v → l.last.at ≤ v)
