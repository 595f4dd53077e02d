use Rattle.std.proofs.Common.{ℕ, ◌+◌, ◌-◌, ◌≤◌}
use Rattle.analysis.specs.Lanes.{lanes_work}
use Rattle.analysis.proofs.lanes.all.climb.Given as goal

abbrev pub invariant-up : goal.invariant-up
invariant-up l = (l.start ≤ l.t) × ((v : ℕ) → l.start ≤ v → l.own + lanes_work l.lanes v ≤ v → l.t ≤ v)

abbrev pub decreases-up : goal.decreases-up
decreases-up l = l.cap + 1 - l.t
