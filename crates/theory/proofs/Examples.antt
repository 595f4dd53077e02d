-- The machine runs: small worst courses, computed.
use Rattle.std.proofs.Common.{◌≡◌, ℕ, [], ◌∷◌, refl}
use Rattle.table.specs.Rules.{TaskSet}
use Rattle.table.specs.Sporadic.{Sporadic}
use Rattle.table.specs.declared.kinds.Mode.{Mode}
use Rattle.table.specs.declared.kinds.Mode.TheVariants.{NonPreemptive, Preemptive}
use Rattle.table.specs.declared.kinds.PolicyCode.TheVariants.{Fixed}
use Rattle.policy.specs.Orders.{fixed_order}
use Rattle.theory.specs.Sums.{sum_below, max_below, count_below}
use Rattle.theory.specs.Lists.{every, any, those, first_such, how_many, greatest}
use Rattle.theory.specs.Machine.{Released, Ran, Finished, start, play, step, answer, answers}
use Rattle.theory.specs.Course.{worst_course, course_until, releases_below, least_below}

task : ℕ → ℕ → ℕ → ℕ → Sporadic
task c t d rank = record { cost = c; period = t; deadline = d; rank = rank; name = [] }

pair : Mode → TaskSet
pair mode = record { policy = Fixed; mode = mode; band = 0; tasks = task 2 5 5 1 ∷ task 4 7 8 2 ∷ [] }

preemptive : answers (pair Preemptive) (fixed_order (pair Preemptive)) start (worst_course (pair Preemptive) (fixed_order (pair Preemptive)) 1 0 8)
    ≡ Released 0 ∷ Released 0 ∷ Ran 0 0 ∷ Finished 0 0 2 ∷ Ran 1 0 ∷ Ran 1 0 ∷ Ran 1 0 ∷ Released 5 ∷ Ran 0 5 ∷ Finished 0 5 2 ∷ Finished 1 0 8 ∷ []
unfolding task pair answers answer step play course_until releases_below least_below every any those first_such how_many greatest sum_below max_below count_below
preemptive = refl

non_preemptive : answers (pair NonPreemptive) (fixed_order (pair NonPreemptive)) start (worst_course (pair NonPreemptive) (fixed_order (pair NonPreemptive)) 0 0 5)
    ≡ Released 0 ∷ Ran 1 0 ∷ Released 1 ∷ Ran 1 0 ∷ Ran 1 0 ∷ Finished 1 0 4 ∷ Ran 0 1 ∷ Finished 0 1 5 ∷ []
unfolding task pair answers answer step play course_until releases_below least_below every any those first_such how_many greatest sum_below max_below count_below
non_preemptive = refl
