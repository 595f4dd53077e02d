-- Whether a task fits at a rank, by its computed worst response there; and the priorities of the first pair in both modes.
use Rattle.std.proofs.Common.{◌≡◌, ℕ, zero, suc, ◌<◌, true, ltb, leb, refl, inr, arith}
use Rattle.std.proofs.lemmas.Bool.{ltb-true, leb-true}
use Rattle.table.specs.Rules.{TaskSet, task_at, follows_rules}
use Rattle.table.specs.declared.kinds.Mode.{Mode}
use Rattle.table.specs.declared.kinds.Mode.TheVariants.{NonPreemptive, Preemptive}
use Rattle.table.specs.declared.kinds.PolicyCode.TheVariants.{Fixed}
use Rattle.theory.specs.Sums.{sum_below, max_below, count_below}
use Rattle.theory.specs.BusyPeriod.{BusyPeriod, load}
use Rattle.priority.specs.Ordering.{OrderingOf, rank_in, level_order}
use Rattle.priority.specs.Assignment.{level_at, Fits, Filled, Stuck}
use Rattle.priority.proofs.Fitting.{filled_admitted}
use Rattle.priority.proofs.InVain.{unfilled}
use Rattle.vectors.specs.Lines.{AssignedAs, UnfilledAs}
use Rattle.vectors.specs.Tables.{task, two}
use Rattle.vectors.proofs.Checks.{all_below, climb, window, window_is, response, worst_is}
use Rattle.vectors.proofs.Sound.{least_found, worst_found}

module _ (t : TaskSet) (L k i r a : ℕ) (worst : worst_is t.mode t (level_order (level_at t k i)) L i r a ≡ true) where
  fits : leb r (task_at t i).deadline ≡ true → Fits t L k i
  fits meets q b v = omega (arith, (worst_found t (level_order (level_at t k i)) L i r a worst).longest b q v.inside v.given, leb-true r (task_at t i).deadline meets)

  unfit : ltb (task_at t i).deadline r ≡ true → Fits t L k i → ⊥
  unfit late all = omega (arith, all r a (worst_found t (level_order (level_at t k i)) L i r a worst), ltb-true (task_at t i).deadline r late)

-- the first pair, ranked in its order
abbrev pair : Mode → TaskSet
pair mode = two Fixed mode (task 2 5 5 1) (task 4 7 7 2)

busy : (m : Mode) → BusyPeriod (pair m) 14
unfolding sum_below all_below
busy m = least_found 1 (load (pair m)) 14 refl

ordering : (m : Mode) → OrderingOf (pair m) (pair m)
unfolding follows_rules
ordering m = record { policy = refl; band = refl; mode = refl; tasks = refl; ranks = refl }

-- behind rank 2 there is none
none_behind : Filled (pair Preemptive) 14 2
none_behind zero here behind = absurd (omega (arith, behind))
none_behind (suc zero) here behind = absurd (omega (arith, behind))
none_behind (suc (suc i)) here behind = absurd (omega (arith, here))

stuck : Stuck (pair Preemptive) 14 2
unfolding sum_below count_below all_below climb window window_is response
stuck zero here left = unfit (pair Preemptive) 14 2 0 7 5 refl refl
stuck (suc zero) here left = unfit (pair Preemptive) 14 2 1 8 0 refl refl
stuck (suc (suc i)) here left = absurd (omega (arith, here))

filled : Filled (pair NonPreemptive) 14 0
unfolding sum_below max_below count_below all_below climb window window_is response
filled zero here placed = (fits (pair NonPreemptive) 14 1 0 5 0 refl refl, others)
  where
    others : (j : ℕ) → 0 < j → j < 2 → rank_in (pair NonPreemptive) j < 1 → Fits (pair NonPreemptive) 14 1 j → ⊥
    others zero after lt left = absurd (omega (arith, after))
    others (suc zero) after lt left = absurd (omega (arith, left))
    others (suc (suc j)) after lt left = absurd (omega (arith, lt))
filled (suc zero) here placed = (fits (pair NonPreemptive) 14 2 1 6 0 refl refl, λ j after lt left all. omega (arith, after, lt))
filled (suc (suc i)) here placed = absurd (omega (arith, here))

pub none_admitted : UnfilledAs (pair Preemptive) 14 2
none_admitted = let refused = unfilled (pair Preemptive) 14 2 (busy Preemptive) (omega arith) (omega arith) (pair Preemptive) (ordering Preemptive) none_behind stuck in (busy Preemptive, refused, inr (14, 2, refl, omega arith, busy Preemptive, refused))

pub in_order : AssignedAs (pair NonPreemptive) (pair NonPreemptive) 14
in_order = (busy NonPreemptive, record { ordering = ordering NonPreemptive; filled = filled; admitted = filled_admitted (pair NonPreemptive) 14 (ordering NonPreemptive).ranks filled })
