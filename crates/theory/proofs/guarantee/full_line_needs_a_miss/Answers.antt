use Rattle.std.proofs.Common.{ap, arith}
use Rattle.table.specs.Rules.{task_at}
use Rattle.theory.proofs.QueueLimit.{full_overdue, never_full}
use Rattle.theory.proofs.guarantee.full_line_needs_a_miss.Goals as goal

pub returns : goal.returns
returns c = record {
  overdue = λ s o checked law calls j k full. let x = full_overdue s o checked calls j k full in (x.0, x.1, x.3, omega (arith, x.4, ap (λ i. (task_at s i).deadline) x.2));
  never = λ s o L checked law busy small. never_full s o L checked law busy;
  overdue_itself = full_overdue;
  never_at_all = never_full;
}
