-- In an admitted task set every offset of the busy period ends, or begins, early enough for the deadline.
use Rattle.std.proofs.Common.{◌≡◌, ℕ, ◌+◌, ◌-◌, ◌<◌, ◌≤◌, max, sym, refl, subst, arith}
use Rattle.table.specs.Rules.{TaskSet, Checked, task_at, task_count}
use Rattle.table.specs.declared.kinds.Mode.{Mode}
use Rattle.table.specs.declared.kinds.Mode.TheVariants.{NonPreemptive, Preemptive}
use Rattle.policy.specs.Order.{Order}
use Rattle.policy.specs.Laws.{Lawful}
use Rattle.theory.specs.LeastSolution.{LeastSolution}
use Rattle.theory.specs.BusyPeriod.{BusyPeriod}
use Rattle.theory.specs.Response.{until_finish, until_start, ResponseIn}
use Rattle.theory.specs.Guarantee.{AdmittedBy}
use Rattle.theory.proofs.Existence.{finish_exists, start_exists}
use Rattle.theory.proofs.WorstExists.{worst_exists}

module _ (s : TaskSet) (o : Order) (checked : Checked s) (law : Lawful s o) (L : ℕ) (busy : BusyPeriod s L) (admitted : AdmittedBy s o L) (i a : ℕ) (here : i < task_count s) (inside : a < L) where
  admitted_response : (m : Mode) → s.mode ≡ m → (r : ℕ) → ResponseIn m s o i a r → r ≤ (task_at s i).deadline
  admitted_response m mode r resp =
      let x = worst_exists s o L i checked law busy here in
      omega (arith, admitted i x.0 x.1 here x.2, x.2.longest a r inside (subst (λ z. ResponseIn z s o i a r) (sym mode) resp))

  pub admitted_finish : s.mode ≡ Preemptive → (F : ℕ) × LeastSolution 1 (until_finish s o i a) F × (F ≤ a + (task_at s i).deadline)
  admitted_finish mode =
      let x = finish_exists s o checked law i a here L busy inside in
      (x.0, x.1, omega (arith, admitted_response Preemptive mode (max (task_at s i).cost (x.0 - a)) (x.0, x.1, refl)))

  pub admitted_start : s.mode ≡ NonPreemptive → (G : ℕ) × LeastSolution 0 (until_start s o i a) G × (G + (task_at s i).cost ≤ a + (task_at s i).deadline)
  admitted_start mode =
      let x = start_exists s o checked law i a here L busy inside in
      (x.0, x.1, omega (arith, admitted_response NonPreemptive mode (max (task_at s i).cost ((x.0 + (task_at s i).cost) - a)) (x.0, x.1, refl)))
