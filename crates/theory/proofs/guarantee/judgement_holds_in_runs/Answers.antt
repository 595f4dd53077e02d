use Rattle.theory.proofs.Bound.{never_longer}
use Rattle.theory.proofs.Guaranteed.{guaranteed}
use Rattle.theory.proofs.guarantee.judgement_holds_in_runs.Goals as goal

pub returns : goal.returns
returns c = record {
  never_longer = λ s o L checked law busy small. never_longer s o L checked law busy;
  never_longer_at_all = never_longer;
  attained = λ s o L checked law busy small. (guaranteed s o L checked law busy small).1;
  late_exactly = λ s o L checked law busy small. (guaranteed s o L checked law busy small).2;
}
