use Rattle.std.proofs.Common.{le_antisymm}
use Rattle.theory.proofs.WorstExists.{one_worst}
use Rattle.theory.proofs.facts.analysis_is_unique.Goals as goal

pub returns : goal.returns
returns c = record {
  busy = λ s L M x y. le_antisymm (x.least M y.from y.solves) (y.least L x.from x.solves);
  worst = one_worst;
}
