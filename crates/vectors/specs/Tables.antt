-- The reference tables, with the judgement that each has.
use Rattle.std.specs.Prelude.{ℕ, [], ◌∷◌, codes}
use Rattle.table.specs.Sporadic.{Sporadic}
use Rattle.table.specs.Rules.{TaskSet}
use Rattle.table.specs.declared.kinds.Mode.{Mode}
use Rattle.table.specs.declared.kinds.Mode.TheVariants.{NonPreemptive, Preemptive}
use Rattle.table.specs.declared.kinds.PolicyCode.{PolicyCode}
use Rattle.table.specs.declared.kinds.PolicyCode.TheVariants.{Fixed, Deadline, Arrival, Bands}
use Rattle.policy.specs.Order.{Order}
use Rattle.policy.specs.Orders.{fixed_order, deadline_order, arrival_order, bands_order}
use Rattle.theory.specs.BusyPeriod.{Overloaded}
use Rattle.vectors.specs.Lines.{AdmittedAs, LateAs, RefusedAs, AssignedAs, UnfilledAs}

-- C, T, D and rank
abbrev pub task : ℕ → ℕ → ℕ → ℕ → Sporadic
task c t d rank = record { cost = c; period = t; deadline = d; rank = rank; name = codes "A" }

-- two tasks, in the order of their ranks, under a policy without bands
abbrev pub two : PolicyCode → Mode → Sporadic → Sporadic → TaskSet
two policy mode first second = record { policy = policy; mode = mode; band = 0; tasks = first ∷ second ∷ [] }

abbrev pub one : Sporadic → TaskSet
one only = record { policy = Fixed; mode = Preemptive; band = 0; tasks = only ∷ [] }

abbrev pub three_in_bands : TaskSet
three_in_bands = record { policy = Bands; mode = Preemptive; band = 1; tasks = task 1 10 2 1 ∷ task 1 5 5 2 ∷ task 4 7 7 3 ∷ [] }

-- the orders as functions of the task set; Bands is Fixed over Deadline, with the band of the task set
abbrev pub by_rank : TaskSet → Order
by_rank s = fixed_order s

abbrev pub by_deadline : TaskSet → Order
by_deadline s = deadline_order s

abbrev pub by_arrival : TaskSet → Order
by_arrival s = arrival_order

abbrev pub by_bands : TaskSet → Order
by_bands s = bands_order s.band (fixed_order s) (deadline_order s)

pub record ReferenceTables : Type 0 where
  pub fixed_preemptive : LateAs by_rank (two Fixed Preemptive (task 2 5 5 1) (task 4 7 7 2)) 14 ((2, 0) ∷ (8, 0) ∷ [])
  pub fixed_longer_deadline : AdmittedAs by_rank (two Fixed Preemptive (task 2 5 5 1) (task 4 7 8 2)) 14 ((2, 0) ∷ (8, 0) ∷ [])
  pub fixed_non_preemptive : AdmittedAs by_rank (two Fixed NonPreemptive (task 2 5 5 1) (task 4 7 7 2)) 14 ((5, 0) ∷ (6, 0) ∷ [])
  pub fixed_shorter_deadline : LateAs by_rank (two Fixed NonPreemptive (task 2 5 4 1) (task 4 7 7 2)) 14 ((5, 0) ∷ (6, 0) ∷ [])
  pub deadline_preemptive : AdmittedAs by_deadline (two Deadline Preemptive (task 2 5 5 1) (task 4 7 7 2)) 14 ((4, 10) ∷ (6, 0) ∷ [])
  pub deadline_non_preemptive : AdmittedAs by_deadline (two Deadline NonPreemptive (task 2 5 5 1) (task 4 7 7 2)) 14 ((5, 0) ∷ (6, 0) ∷ [])
  pub arrival_preemptive : AdmittedAs by_arrival (two Arrival Preemptive (task 2 5 5 1) (task 4 7 7 2)) 14 ((5, 1) ∷ (6, 0) ∷ [])
  pub arrival_non_preemptive : AdmittedAs by_arrival (two Arrival NonPreemptive (task 2 5 5 1) (task 4 7 7 2)) 14 ((5, 1) ∷ (6, 0) ∷ [])
  pub deadline_tie : AdmittedAs by_deadline (two Deadline Preemptive (task 3 10 10 1) (task 4 10 10 2)) 7 ((6, 1) ∷ (7, 0) ∷ [])
  pub bands : AdmittedAs by_bands three_in_bands 7 ((1, 0) ∷ (3, 3) ∷ (6, 0) ∷ [])
  pub full : AdmittedAs by_rank (one (task 1 1 1 1)) 1 ((1, 0) ∷ [])
  pub overloaded : Overloaded (two Fixed Preemptive (task 1 1 1 1) (task 1 2 2 2))
  pub overloaded_refused : RefusedAs by_rank (two Fixed Preemptive (task 1 1 1 1) (task 1 2 2 2))
  pub priorities_preemptive : UnfilledAs (two Fixed Preemptive (task 2 5 5 1) (task 4 7 7 2)) 14 2
  pub priorities_non_preemptive : AssignedAs (two Fixed NonPreemptive (task 2 5 5 1) (task 4 7 7 2)) (two Fixed NonPreemptive (task 2 5 5 1) (task 4 7 7 2)) 14
