-- Deadline order admits a task set exactly when the demand criterion holds.
use Rattle.std.proofs.Common.{ℕ}
use Rattle.table.specs.Rules.{TaskSet, Checked}
use Rattle.policy.specs.Orders.{deadline_order}
use Rattle.theory.specs.BusyPeriod.{BusyPeriod}
use Rattle.theory.specs.DemandCriterion.{DeadlineAsPublished}
use Rattle.policy.specs.Shipped.{deadline_lawful}
use Rattle.theory.proofs.CriterionEnough.{criterion_enough}
use Rattle.theory.proofs.CriterionNeeded.{criterion_needed}

pub deadline_as_published : (s : TaskSet) (L : ℕ) → Checked s → BusyPeriod s L → DeadlineAsPublished s L
deadline_as_published s L checked busy = (criterion_needed s L checked busy (deadline_order s) (deadline_lawful s checked), criterion_enough s L checked)
