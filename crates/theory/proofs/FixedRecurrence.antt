-- The published recurrences of fixed priorities, mode by mode: they are what the analysis solves at the offset a, with q = a / T.
use Rattle.std.proofs.Common.{◌≡◌, ℕ, suc, ◌+◌, ◌-◌, ◌*◌, ◌/◌, ◌<◌, ◌≤◌, max, ◌⊎◌, sym, refl, ap, subst, inl, inr, mul-le-mul_right, add-mul, mul-div_cancel, arith}
use Rattle.std.proofs.lemmas.Bool.{cases_eq}
use Rattle.table.specs.Rules.{TaskSet, Checked, task_at, task_count}
use Rattle.table.specs.declared.kinds.Mode.{Mode}
use Rattle.table.specs.declared.kinds.Mode.TheVariants.{NonPreemptive, Preemptive}
use Rattle.table.proofs.Ranges.{task_ranges}
use Rattle.policy.specs.Orders.{fixed_order}
use Rattle.theory.specs.LeastSolution.{LeastSolution}
use Rattle.theory.specs.BusyPeriod.{ceil_div, BusyPeriod}
use Rattle.theory.specs.Response.{until_finish, until_start, ResponseIn}
use Rattle.theory.specs.FixedPriority.{level_load, recurrence, recurrence_from, response_of}
use Rattle.theory.proofs.Solutions.{Monotone, beyond, same_solution, below_solution}
use Rattle.theory.proofs.Existence.{finish_exists, start_exists}
use Rattle.theory.proofs.Divisions.{ceil_least}
use Rattle.policy.specs.Shipped.{fixed_lawful}
use Rattle.theory.proofs.FixedOrder.{work_above, same_blocking}
use Rattle.theory.proofs.LevelWork.{above, above_mono, above_add, above_suc, load_mono, load_first}

module _ (s : TaskSet) (checked : Checked s) (i : ℕ) (here : i < task_count s) where
  period_low : 1 ≤ (task_at s i).period
  period_low = (task_ranges s checked i here).period_low

  cost_low : 1 ≤ (task_at s i).cost
  cost_low = (task_ranges s checked i here).cost_low

  abbrev pub Solved : Mode → ℕ → ℕ → Type 0
  Solved m q w = LeastSolution (recurrence_from m) (recurrence m s i q) w

  pub recurrence_mono : (m : Mode) (q : ℕ) → Monotone (recurrence m s i q)
  recurrence_mono Preemptive q x y le = omega (arith, above_mono s checked i here x y le)
  recurrence_mono NonPreemptive q x y le = omega (arith, above_suc s checked i here x, above_suc s checked i here y, above_mono s checked i here (suc x) (suc y) (omega arith))

  pub recurrence_first : (m : Mode) (q : ℕ) → recurrence_from m ≤ recurrence m s i q (recurrence_from m)
  recurrence_first Preemptive q = omega (arith, cost_low, add-mul q 1 (task_at s i).cost)
  recurrence_first NonPreemptive q = omega arith

  -- a busy period of the level earlier
  pub recurrence_moved : (m : Mode) (level : ℕ) → LeastSolution 1 (level_load m s i) level → (q t : ℕ) → recurrence m s i (q + ceil_div level (task_at s i).period) (level + t) ≤ level + recurrence m s i q t
  recurrence_moved Preemptive level sol q t = omega (arith, sol.solves, above_add s checked i here level t, add-mul (q + ceil_div level (task_at s i).period) 1 (task_at s i).cost, add-mul q (ceil_div level (task_at s i).period) (task_at s i).cost, add-mul q 1 (task_at s i).cost)
  recurrence_moved NonPreemptive level sol q t =
      let e : suc (level + t) ≡ level + suc t = omega arith in
      omega (arith, sol.solves, above_suc s checked i here (level + t), above_suc s checked i here t, ap (above s checked i here) e, above_add s checked i here level (suc t), add-mul q (ceil_div level (task_at s i).period) (task_at s i).cost)

  -- the analysis at a, and the recurrence of job a / T
  finish_same : (a t : ℕ) → until_finish s (fixed_order s) i a t ≡ recurrence Preemptive s i (a / (task_at s i).period) t
  finish_same a t = omega (arith, work_above s checked i a here t, add-mul 1 (a / (task_at s i).period) (task_at s i).cost, add-mul (a / (task_at s i).period) 1 (task_at s i).cost)

  start_same : (a t : ℕ) → until_start s (fixed_order s) i a t ≡ recurrence NonPreemptive s i (a / (task_at s i).period) t
  start_same a t = omega (arith, work_above s checked i a here (suc t), same_blocking s checked i a here, above_suc s checked i here t)

  at_multiple : (q : ℕ) → q * (task_at s i).period / (task_at s i).period ≡ q
  at_multiple q = mul-div_cancel q period_low

  pub recurrence_exists : (m : Mode) (L : ℕ) → BusyPeriod s L → (q : ℕ) → q * (task_at s i).period < L → (w : ℕ) × Solved m q w
  recurrence_exists Preemptive L busy q lt =
      let x = finish_exists s (fixed_order s) checked (fixed_lawful s checked) i (q * (task_at s i).period) here L busy lt in
      (x.0, subst (λ z. Solved Preemptive z x.0) (at_multiple q) (same_solution 1 _ _ x.0 (finish_same (q * (task_at s i).period)) x.1))
  recurrence_exists NonPreemptive L busy q lt =
      let x = start_exists s (fixed_order s) checked (fixed_lawful s checked) i (q * (task_at s i).period) here L busy lt in
      (x.0, subst (λ z. Solved NonPreemptive z x.0) (at_multiple q) (same_solution 0 _ _ x.0 (start_same (q * (task_at s i).period)) x.1))

  -- the response at a, before C is put under it
  abbrev pub tail : Mode → ℕ → ℕ → ℕ
  tail Preemptive w a = w - a
  tail NonPreemptive w a = (w + (task_at s i).cost) - a

  pub response_solved : (m : Mode) (a r : ℕ) → ResponseIn m s (fixed_order s) i a r → (w : ℕ) × Solved m (a / (task_at s i).period) w × (r ≡ max (task_at s i).cost (tail m w a))
  response_solved Preemptive a r (F, sol, e) = (F, same_solution 1 _ _ F (finish_same a) sol, e)
  response_solved NonPreemptive a r (G, sol, e) = (G, same_solution 0 _ _ G (start_same a) sol, e)

  pub solved_response : (m : Mode) (q w : ℕ) → Solved m q w → ResponseIn m s (fixed_order s) i (q * (task_at s i).period) (max (task_at s i).cost (response_of m s i q w))
  solved_response Preemptive q w sol = (w, same_solution 1 _ _ w (λ t. sym (finish_same (q * (task_at s i).period) t)) (subst (λ z. Solved Preemptive z w) (sym (at_multiple q)) sol), refl)
  solved_response NonPreemptive q w sol = (w, same_solution 0 _ _ w (λ t. sym (start_same (q * (task_at s i).period) t)) (subst (λ z. Solved NonPreemptive z w) (sym (at_multiple q)) sol), refl)

  -- job q ends or begins no earlier than it is released
  pub released_first : (m : Mode) (level : ℕ) → LeastSolution 1 (level_load m s i) level → (q w : ℕ) → q * (task_at s i).period < level → Solved m q w → q * (task_at s i).period ≤ w
  released_first Preemptive level busy q w lt sol = omega (
    arith,
    beyond 1 (recurrence Preemptive s i q) w (q * (task_at s i).period) sol (λ u low le. omega (
      arith,
      below_solution 1 (level_load Preemptive s i) level u (load_mono s checked i here Preemptive) (load_first s checked i here Preemptive) busy low (omega arith),
      mul-le-mul_right (task_at s i).cost (ceil_least u (task_at s i).period q period_low le),
      add-mul q 1 (task_at s i).cost,
    )),
  )
  released_first NonPreemptive level busy q w lt sol = go (cases_eq (q * (task_at s i).period) 0)
    where
      go : (q * (task_at s i).period ≡ 0) ⊎ (q * (task_at s i).period ≡ 0 → ⊥) → q * (task_at s i).period ≤ w
      go (inl e) = omega arith
      go (inr ne) = omega (
        arith,
        ne,
        beyond 0 (recurrence NonPreemptive s i q) w (q * (task_at s i).period - 1) sol (λ u low le. omega (
          arith,
          below_solution 1 (level_load NonPreemptive s i) level (suc u) (load_mono s checked i here NonPreemptive) (load_first s checked i here NonPreemptive) busy (omega arith) (omega (arith, ne)),
          mul-le-mul_right (task_at s i).cost (ceil_least (suc u) (task_at s i).period q period_low (omega (arith, ne))),
          above_suc s checked i here u,
        )),
      )
