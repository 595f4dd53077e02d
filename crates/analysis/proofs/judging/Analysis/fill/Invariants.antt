use Rattle.std.proofs.Common.{ℕ, ◌<◌}
use Rattle.table.specs.Model.{content}
use Rattle.analysis.specs.Judged.{RowOf, row_at}
use Rattle.analysis.proofs.judging.Analysis.fill.Given as goal

abbrev pub invariant-loop-i : goal.invariant-loop-i
invariant-loop-i g l = (k : ℕ) → k < l.i → RowOf (content l.self.table.now) (g.P.Policy.meaning l.self.policy.now (content l.self.table.now)) l.self.busy k (row_at l.rows k)
