use Rattle.std.proofs.Common.{◌≡◌, ℕ, ◌<◌, None}
use Rattle.dispatch.specs.Leading.{first_release}
use Rattle.dispatch.specs.Lines.{board}
use Rattle.dispatch.proofs.station.Station.first_waiting.Given as goal

abbrev pub invariant-loop-task : goal.invariant-loop-task
invariant-loop-task l = (k : ℕ) → k < l.task → first_release (board l.self.lines k).waiting ≡ None
