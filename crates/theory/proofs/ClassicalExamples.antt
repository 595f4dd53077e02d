-- The published formulas compute: examples from the literature.
use Rattle.std.proofs.Common.{◌≡◌, ℕ, [], ◌∷◌, refl}
use Rattle.table.specs.Rules.{TaskSet}
use Rattle.table.specs.Sporadic.{Sporadic}
use Rattle.table.specs.declared.kinds.Mode.TheVariants.{NonPreemptive, Preemptive}
use Rattle.table.specs.declared.kinds.PolicyCode.TheVariants.{Fixed}
use Rattle.theory.specs.Sums.{sum_below, max_below}
use Rattle.theory.specs.FixedPriority.{level_load, recurrence, response_of}
use Rattle.theory.specs.DemandCriterion.{demand, demand_blocking}

task : ℕ → ℕ → ℕ → ℕ → Sporadic
task c t d rank = record { cost = c; period = t; deadline = d; rank = rank; name = [] }

-- seven jobs of the second task in its busy period of 694 ticks; the fifth takes longest
pair : TaskSet
pair = record { policy = Fixed; mode = Preemptive; band = 0; tasks = task 26 70 70 1 ∷ task 62 100 120 2 ∷ [] }

pair_level : level_load Preemptive pair 1 694 ≡ 694
unfolding task pair sum_below
pair_level = refl

pair_first : (recurrence Preemptive pair 1 0 114 ≡ 114) × (response_of Preemptive pair 1 0 114 ≡ 114)
unfolding task pair sum_below
pair_first = (refl, refl)

pair_fifth : (recurrence Preemptive pair 1 4 518 ≡ 518) × (response_of Preemptive pair 1 4 518 ≡ 118)
unfolding task pair sum_below
pair_fifth = (refl, refl)

pair_last : (recurrence Preemptive pair 1 6 694 ≡ 694) × (response_of Preemptive pair 1 6 694 ≡ 94)
unfolding task pair sum_below
pair_last = (refl, refl)

-- without preemption: the second job of the third task is its worst
three : TaskSet
three = record { policy = Fixed; mode = NonPreemptive; band = 0; tasks = task 1 3 3 1 ∷ task 2 5 5 2 ∷ task 2 8 8 3 ∷ [] }

three_second : (recurrence NonPreemptive three 2 1 13 ≡ 13) × (response_of NonPreemptive three 2 1 13 ≡ 7)
unfolding task three sum_below max_below
three_second = (refl, refl)

-- by 8 the first of the three tasks is due twice and the others once; the third may block the rest before its own deadline
three_demand : (demand three 8 ≡ 6) × (demand_blocking NonPreemptive three 4 ≡ 1) × (demand_blocking NonPreemptive three 8 ≡ 0)
unfolding task three sum_below max_below
three_demand = (refl, refl, refl)
