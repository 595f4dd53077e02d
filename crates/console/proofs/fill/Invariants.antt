use Rattle.std.proofs.Common.{◌-◌, ◌≤◌}
use Rattle.console.proofs.fill.Given as goal

abbrev pub invariant-loop-filled : goal.invariant-loop-filled
invariant-loop-filled l = l.filled ≤ l.end

abbrev pub decreases-loop-filled : goal.decreases-loop-filled
decreases-loop-filled l = l.end - l.filled
