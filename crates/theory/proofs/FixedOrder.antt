-- Under fixed priorities: what is ahead and what blocks are read off the ranks.
use Rattle.std.proofs.Common.{◌≡◌, ℕ, ◌-◌, ◌*◌, ◌<◌, ◌≤◌, Bool, true, false, cond, ◌&&◌, eqb, ltb, ◌⊎◌, ℤ, pos, negsuc, sym, ap, ◌∙◌, inl, inr, le_antisymm, zero-mul, arith}
use lib.Signed.{lt_z}
use Rattle.std.proofs.lemmas.Bool.{cases_eq, cases_Bool, both_ways, cond-true, cond-false, and_parts, and_from, eq-eqb, ne_eqb, le-ltb, lt-ltb, ltb-true}
use Rattle.table.specs.Rules.{TaskSet, Checked, task_at, task_count}
use Rattle.table.proofs.Ranges.{task_ranges}
use Rattle.policy.specs.Order.{job}
use Rattle.policy.specs.Orders.{fixed_order}
use Rattle.theory.specs.BusyPeriod.{ceil_div}
use Rattle.theory.specs.Response.{jobs_ahead, work_ahead, blocking}
use Rattle.theory.specs.FixedPriority.{sum_above, blocking_below}
use Rattle.theory.proofs.Sums.{sum_cong, max_cong, count_at_least, count_at_most}
use Rattle.theory.proofs.Divisions.{ceil_above, below_ceil, ceil_at_most}

module _ (s : TaskSet) (checked : Checked s) where
  module _ (i a : ℕ) (here : i < task_count s) where
    other_ahead : (j : ℕ) (r : ℤ) → (j ≡ i → ⊥) → (fixed_order s).ahead (job j r) (job i (pos a)) ≡ ltb (task_at s j).rank (task_at s i).rank
    other_ahead j r ne = cond-false (eqb j i) (lt_z r (pos a)) (ltb (task_at s j).rank (task_at s i).rank) (ne_eqb j i ne)

    -- all jobs of a task above are ahead, and none of a task below
    jobs_above : (j t : ℕ) → j < task_count s → (j ≡ i → ⊥) → ltb (task_at s j).rank (task_at s i).rank ≡ true → jobs_ahead s (fixed_order s) i a j t ≡ ceil_div t (task_at s j).period
    jobs_above j t hj ne up = le_antisymm
        (count_at_most t (ceil_div t (task_at s j).period) test (λ k lt h. ceil_above t (task_at s j).period k low (ltb-true (k * (task_at s j).period) t (and_parts (ltb (k * (task_at s j).period) t) (first k) h).0)))
        (count_at_least t (ceil_div t (task_at s j).period) test (ceil_at_most t (task_at s j).period low) (λ k lt. and_from (ltb (k * (task_at s j).period) t) (first k) (lt-ltb (k * (task_at s j).period) t (below_ceil t (task_at s j).period k low lt)) (other_ahead j (pos (k * (task_at s j).period)) ne ∙ up)))
      where
        low : 1 ≤ (task_at s j).period
        low = (task_ranges s checked j hj).period_low

        first : ℕ → Bool
        first k = (fixed_order s).ahead (job j (pos (k * (task_at s j).period))) (job i (pos a))

        test : ℕ → Bool
        test k = ltb (k * (task_at s j).period) t && first k

    jobs_below : (j t : ℕ) → (j ≡ i → ⊥) → ltb (task_at s j).rank (task_at s i).rank ≡ false → jobs_ahead s (fixed_order s) i a j t ≡ 0
    jobs_below j t ne down = omega (arith, count_at_most t 0 (λ k. ltb (k * (task_at s j).period) t && first k) (λ k lt h. absurd (both_ways (first k) (other_ahead j (pos (k * (task_at s j).period)) ne ∙ down) (and_parts (ltb (k * (task_at s j).period) t) (first k) h).1)))
      where
        first : ℕ → Bool
        first k = (fixed_order s).ahead (job j (pos (k * (task_at s j).period))) (job i (pos a))

    not_above_itself : (j : ℕ) → j ≡ i → ltb (task_at s j).rank (task_at s i).rank ≡ false
    not_above_itself j e = le-ltb (task_at s j).rank (task_at s i).rank (omega (arith, ap (λ z. (task_at s z).rank) e))

    pub work_above : (t : ℕ) → work_ahead s (fixed_order s) i a t ≡ sum_above s i (λ j. ceil_div t (task_at s j).period * (task_at s j).cost)
    work_above t = sum_cong (task_count s) (λ j. cond (eqb j i) 0 (jobs_ahead s (fixed_order s) i a j t * (task_at s j).cost)) (λ j. cond (ltb (task_at s j).rank (task_at s i).rank) (ceil_div t (task_at s j).period * (task_at s j).cost) 0) (λ j lt. go j lt (cases_eq j i) (cases_Bool (ltb (task_at s j).rank (task_at s i).rank)))
      where
        go : (j : ℕ) → j < task_count s → (j ≡ i) ⊎ (j ≡ i → ⊥) → (ltb (task_at s j).rank (task_at s i).rank ≡ true) ⊎ (ltb (task_at s j).rank (task_at s i).rank ≡ false) → cond (eqb j i) 0 (jobs_ahead s (fixed_order s) i a j t * (task_at s j).cost) ≡ cond (ltb (task_at s j).rank (task_at s i).rank) (ceil_div t (task_at s j).period * (task_at s j).cost) 0
        go j lt (inl e) b = cond-true (eqb j i) 0 (jobs_ahead s (fixed_order s) i a j t * (task_at s j).cost) (eq-eqb j i e) ∙ sym (cond-false (ltb (task_at s j).rank (task_at s i).rank) (ceil_div t (task_at s j).period * (task_at s j).cost) 0 (not_above_itself j e))
        go j lt (inr ne) (inl b) = cond-false (eqb j i) 0 (jobs_ahead s (fixed_order s) i a j t * (task_at s j).cost) (ne_eqb j i ne) ∙ ap (λ z. z * (task_at s j).cost) (jobs_above j t lt ne b) ∙ sym (cond-true (ltb (task_at s j).rank (task_at s i).rank) (ceil_div t (task_at s j).period * (task_at s j).cost) 0 b)
        go j lt (inr ne) (inr b) = cond-false (eqb j i) 0 (jobs_ahead s (fixed_order s) i a j t * (task_at s j).cost) (ne_eqb j i ne) ∙ ap (λ z. z * (task_at s j).cost) (jobs_below j t ne b) ∙ zero-mul (task_at s j).cost ∙ sym (cond-false (ltb (task_at s j).rank (task_at s i).rank) (ceil_div t (task_at s j).period * (task_at s j).cost) 0 b)

    pub same_blocking : blocking s (fixed_order s) i a ≡ blocking_below s i
    same_blocking = max_cong (task_count s) (λ j. cond (eqb j i) 0 (cond ((fixed_order s).ahead (job i (pos a)) (job j (negsuc 0))) ((task_at s j).cost - 1) 0)) (λ j. cond (ltb (task_at s i).rank (task_at s j).rank) ((task_at s j).cost - 1) 0) (λ j lt. go j (cases_eq j i))
      where
        go : (j : ℕ) → (j ≡ i) ⊎ (j ≡ i → ⊥) → cond (eqb j i) 0 (cond ((fixed_order s).ahead (job i (pos a)) (job j (negsuc 0))) ((task_at s j).cost - 1) 0) ≡ cond (ltb (task_at s i).rank (task_at s j).rank) ((task_at s j).cost - 1) 0
        go j (inl e) = cond-true (eqb j i) 0 _ (eq-eqb j i e) ∙ sym (cond-false (ltb (task_at s i).rank (task_at s j).rank) ((task_at s j).cost - 1) 0 (le-ltb (task_at s i).rank (task_at s j).rank (omega (arith, ap (λ z. (task_at s z).rank) e))))
        go j (inr ne) = cond-false (eqb j i) 0 _ (ne_eqb j i ne) ∙ ap (λ b. cond b ((task_at s j).cost - 1) 0) (cond-false (eqb i j) (lt_z (pos a) (negsuc 0)) (ltb (task_at s i).rank (task_at s j).rank) (ne_eqb i j (λ e. ne (sym e))))
