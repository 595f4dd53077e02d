-- The criterion is enough: under deadline order every response is within its deadline.
use Rattle.std.proofs.Common.{◌≡◌, ℕ, suc, ◌+◌, ◌-◌, ◌/◌, ◌<◌, ◌≤◌, refl, ap, add-mul, arith}
use Rattle.table.specs.Rules.{TaskSet, Checked, task_at, task_count}
use Rattle.table.specs.declared.kinds.Mode.{Mode}
use Rattle.table.specs.declared.kinds.Mode.TheVariants.{NonPreemptive, Preemptive}
use Rattle.table.proofs.Ranges.{task_ranges}
use Rattle.policy.specs.Orders.{deadline_order}
use Rattle.theory.specs.Response.{until_finish, until_start, ResponseIn}
use Rattle.theory.specs.Guarantee.{AdmittedBy}
use Rattle.theory.specs.DemandCriterion.{demand, demand_blocking, Criterion}
use Rattle.theory.proofs.Demand.{least_under, finish_first}
use Rattle.theory.proofs.Existence.{until_finish_mono, until_start_mono}
use Rattle.policy.specs.Shipped.{deadline_lawful}
use Rattle.theory.proofs.DeadlineOrder.{work_due, blocking_due}
use Rattle.theory.proofs.CriterionAnywhere.{fits_anywhere}

module _ (s : TaskSet) (checked : Checked s) (criterion : Criterion s) (i a : ℕ) (here : i < task_count s) where
  fits : demand s (a + (task_at s i).deadline) + demand_blocking s.mode s (a + (task_at s i).deadline) ≤ a + (task_at s i).deadline
  fits = fits_anywhere s checked criterion i (a + (task_at s i).deadline) here (omega arith)

  -- a task with C > D does not fit at its own first deadline
  own_fits : (task_at s i).cost ≤ (task_at s i).deadline
  own_fits = omega (arith, fits_anywhere s checked criterion i (0 + (task_at s i).deadline) here (omega arith), work_due s checked i 0 here 0, add-mul 1 (0 / (task_at s i).period) (task_at s i).cost)

  within : (m : Mode) → s.mode ≡ m → (r : ℕ) → ResponseIn m s (deadline_order s) i a r → r ≤ (task_at s i).deadline
  within Preemptive mode r (F, sol, e) =
      let ends : F ≤ a + (task_at s i).deadline = least_under 1 (until_finish s (deadline_order s) i a) F (a + (task_at s i).deadline) sol (until_finish_mono s (deadline_order s) checked (deadline_lawful s checked) i a here)
      (finish_first s (deadline_order s) i a checked here) (omega (arith, (task_ranges s checked i here).deadline_low)) (omega (arith, fits, work_due s checked i a here (a + (task_at s i).deadline))) in
      omega (arith, own_fits)
  within NonPreemptive mode r (G, sol, e) =
      let begins : G ≤ (a + (task_at s i).deadline) - (task_at s i).cost = least_under 0 (until_start s (deadline_order s) i a) G ((a + (task_at s i).deadline) - (task_at s i).cost) sol (until_start_mono s (deadline_order s) checked (deadline_lawful s checked) i a here) (omega arith) (omega arith)
      (omega (
        arith,
        fits,
        own_fits,
        ap (λ m. demand_blocking m s (a + (task_at s i).deadline)) mode,
        blocking_due s checked i a here,
        work_due s checked i a here (suc ((a + (task_at s i).deadline) - (task_at s i).cost)),
        add-mul 1 (a / (task_at s i).period) (task_at s i).cost,
      )) in
      omega (arith, own_fits)

pub criterion_enough : (s : TaskSet) (L : ℕ) → Checked s → Criterion s → AdmittedBy s (deadline_order s) L
criterion_enough s L checked criterion i r a here worst = within s checked criterion i a here s.mode refl r worst.given
