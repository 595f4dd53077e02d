use Rattle.std.proofs.Common.{ℕ}
use Rattle.table.specs.Model.{content}
use Rattle.priority.specs.Assignment.{Filled}
use Rattle.priority.specs.Ordering.{OrderingOf}
use Rattle.priority.specs.Steps.{JudgedBusy}
use Rattle.priority.proofs.assigning.fill_ranks.Given as goal

abbrev pub invariant-loop-left : goal.invariant-loop-left
invariant-loop-left l = OrderingOf (content l.table) (content l.order) × ((L : ℕ) → JudgedBusy (content l.table) L → Filled (content l.order) L l.left)
