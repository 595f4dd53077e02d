-- The worst response under fixed priorities is the greatest of the published recurrences.
use Rattle.std.proofs.Common.{◌≡◌, ℕ, ◌+◌, ◌*◌, ◌/◌, ◌<◌, ◌≤◌, max, ◌⊎◌, inl, inr, add-mul, le_antisymm, zero-mul, div-mul-le_self, arith}
use Rattle.std.proofs.lemmas.Bool.{cases_lt}
use Rattle.table.specs.Rules.{TaskSet, Checked, task_at, task_count}
use Rattle.table.specs.declared.kinds.Mode.{Mode}
use Rattle.table.specs.declared.kinds.Mode.TheVariants.{NonPreemptive, Preemptive}
use Rattle.table.proofs.Ranges.{task_ranges}
use Rattle.policy.specs.Orders.{fixed_order}
use Rattle.theory.specs.LeastSolution.{LeastSolution}
use Rattle.theory.specs.BusyPeriod.{BusyPeriod}
use Rattle.theory.specs.Response.{ResponseIn}
use Rattle.theory.specs.FixedPriority.{level_load, recurrence, recurrence_from, response_of, LevelResponse, FixedAsPublished}
use Rattle.theory.proofs.Descent.{descend}
use Rattle.theory.proofs.LevelWork.{level_exists}
use Rattle.theory.proofs.FixedRecurrence.{Solved, recurrence_mono, recurrence_first, recurrence_moved, recurrence_exists, tail, response_solved, solved_response, released_first}

module _ (s : TaskSet) (checked : Checked s) (L : ℕ) (busy : BusyPeriod s L) (i : ℕ) (here : i < task_count s) where
  -- a job q whose response is no less than r
  abbrev pub Reaches : Mode → ℕ → ℕ → Type 0
  Reaches m level r = (q : ℕ) × (w : ℕ) × (q * (task_at s i).period < level) × Solved s checked i here m q w × (r ≤ response_of m s i q w)

  -- job 0 reaches C
  first_reaches : (m : Mode) (level : ℕ) → 1 ≤ level → level ≤ L → Reaches m level (task_at s i).cost
  first_reaches m level low le = go m (recurrence_exists s checked i here m L busy 0 (omega (arith, zero-mul (task_at s i).period)))
    where
      go : (m : Mode) → (w : ℕ) × Solved s checked i here m 0 w → Reaches m level (task_at s i).cost
      go Preemptive (w, sol) = (0, w, omega (arith, zero-mul (task_at s i).period), sol, omega (arith, sol.solves, zero-mul (task_at s i).period, add-mul 0 1 (task_at s i).cost, zero-mul (task_at s i).cost))
      go NonPreemptive (w, sol) = (0, w, omega (arith, zero-mul (task_at s i).period), sol, omega (arith, zero-mul (task_at s i).period))

  -- what is no later with respect to its release
  no_less : (m : Mode) (a q w p v : ℕ) → q * (task_at s i).period ≤ a → w + p * (task_at s i).period ≤ v + q * (task_at s i).period → tail s checked i here m w a ≤ response_of m s i p v
  no_less Preemptive a q w p v le h = omega arith
  no_less NonPreemptive a q w p v le h = omega arith

  pub reached : (m : Mode) (level : ℕ) → LeastSolution 1 (level_load m s i) level → level ≤ L → (r a : ℕ) → a < L → ResponseIn m s (fixed_order s) i a r → Reaches m level r
  reached m level sol le r a inside given = go (response_solved s checked i here m a r given)
    where
      under : a / (task_at s i).period * (task_at s i).period ≤ a
      under = div-mul-le_self a (task_at s i).period

      go : (w : ℕ) × Solved s checked i here m (a / (task_at s i).period) w × (r ≡ max (task_at s i).cost (tail s checked i here m w a)) → Reaches m level r
      go (w, mine, e) = two (cases_lt (task_at s i).cost (tail s checked i here m w a))
        where
          two : ((task_at s i).cost < tail s checked i here m w a) ⊎ (tail s checked i here m w a ≤ (task_at s i).cost) → Reaches m level r
          two (inr small) = let x = first_reaches m level sol.from le in (x.0, x.1, x.2, x.3, omega (arith, x.4))
          two (inl more) =
              let x = descend (recurrence_from m) (task_at s i).period level (recurrence m s i) (task_ranges s checked i here).period_low sol.from (recurrence_mono s checked i here m) (recurrence_first s checked i here m) (recurrence_moved s checked i here m level sol) L (recurrence_exists s checked i here m L busy) (a / (task_at s i).period) w (omega (arith, under)) mine in
              (x.0, x.1, x.2, x.3, omega (arith, no_less m a (a / (task_at s i).period) w x.0 x.1 under x.4))

pub fixed_as_published : (s : TaskSet) (L : ℕ) → Checked s → BusyPeriod s L → FixedAsPublished s L
fixed_as_published s L checked busy i r a here worst = go (level_exists s checked i here s.mode L busy)
  where
    go : (level : ℕ) × LeastSolution 1 (level_load s.mode s i) level × (level ≤ L) → (level : ℕ) × LevelResponse s i r level
    go (level, sol, le) = (
      level,
      record {
        busy = sol;
        solved = λ q lt. let x = recurrence_exists s checked i here s.mode L busy q (omega arith) in (x.0, x.1, released_first s checked i here s.mode level sol q x.0 lt x.1);
        longest = upper;
        taken = exact (reached s checked L busy i here s.mode level sol le r a worst.inside worst.given);
      },
    )
      where
        upper : (q w : ℕ) → q * (task_at s i).period < level → Solved s checked i here s.mode q w → response_of s.mode s i q w ≤ r
        upper q w lt mine = omega (arith, worst.longest (q * (task_at s i).period) (max (task_at s i).cost (response_of s.mode s i q w)) (omega arith) (solved_response s checked i here s.mode q w mine))

        exact : (q : ℕ) × (w : ℕ) × (q * (task_at s i).period < level) × Solved s checked i here s.mode q w × (r ≤ response_of s.mode s i q w) → (q : ℕ) × (w : ℕ) × (q * (task_at s i).period < level) × Solved s checked i here s.mode q w × (r ≡ response_of s.mode s i q w)
        exact (q, w, lt, mine, up) = (q, w, lt, mine, le_antisymm up (upper q w lt mine))
