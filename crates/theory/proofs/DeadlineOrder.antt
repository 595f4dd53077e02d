-- Under deadline order: what is ahead of a job is due no later, and what may block it is due later.
use Rattle.std.proofs.Common.{◌≡◌, ℕ, ◌+◌, ◌-◌, ◌*◌, ◌/◌, ◌<◌, ◌≤◌, Bool, true, false, cond, ◌&&◌, eqb, ltb, leb, ◌⊎◌, pos, negsuc, ◌+ℤ◌, refl, ap, ◌∙◌, inl, inr, mul-le-mul_right, le-div_iff_mul-le, arith}
use Rattle.std.proofs.lemmas.Int.{ints}
use Rattle.std.proofs.lemmas.Bool.Decides.{nat_tests}
use Rattle.std.proofs.lemmas.Bool.{cases_Bool, cond-true, cond-false, and_parts, le-leb, lt-ltb}
use Rattle.table.specs.Rules.{TaskSet, Checked, task_at, task_count}
use Rattle.table.specs.declared.kinds.Mode.TheVariants.{NonPreemptive}
use Rattle.table.proofs.Ranges.{task_ranges}
use Rattle.policy.specs.Order.{job}
use Rattle.policy.specs.Orders.{deadline_order, key_ahead}
use Rattle.theory.specs.Response.{jobs_ahead, work_ahead, blocking}
use Rattle.theory.specs.DemandCriterion.{demand, demand_blocking}
use Rattle.theory.proofs.Sums.{sum_mono, sum_split, count_at_most}
use Rattle.theory.proofs.CriterionAnywhere.{max_mono}

key_due : (i j r m a n : ℕ) → key_ahead j (pos r +ℤ pos n) i (pos a +ℤ pos m) ≡ true → r + n ≤ a + m
key_due i j r m a n h = grind (arith, ints, nat_tests)

key_late : (i j a m n : ℕ) → key_ahead i (pos a +ℤ pos m) j (negsuc 0 +ℤ pos n) ≡ true → a + m < n
key_late i j a m n h = grind (arith, ints, nat_tests)

module _ (s : TaskSet) (checked : Checked s) where
  module _ (i a : ℕ) (here : i < task_count s) where
    -- the jobs of j due by t
    abbrev due_by : ℕ → ℕ → ℕ
    due_by j t = cond (leb (task_at s j).deadline t) (1 + (t - (task_at s j).deadline) / (task_at s j).period) 0

    jobs_due : (j u : ℕ) → j < task_count s → jobs_ahead s (deadline_order s) i a j u ≤ due_by j (a + (task_at s i).deadline)
    jobs_due j u hj = count_at_most u (due_by j (a + (task_at s i).deadline)) (λ k. ltb (k * (task_at s j).period) u && first k) (λ k lt h. inside k (key_due i j (k * (task_at s j).period) (task_at s i).deadline a (task_at s j).deadline (and_parts (ltb (k * (task_at s j).period) u) (first k) h).1))
      where
        first : ℕ → Bool
        first k = (deadline_order s).ahead (job j (pos (k * (task_at s j).period))) (job i (pos a))

        inside : (k : ℕ) → k * (task_at s j).period + (task_at s j).deadline ≤ a + (task_at s i).deadline → k < due_by j (a + (task_at s i).deadline)
        inside k le =
            let most : k ≤ ((a + (task_at s i).deadline) - (task_at s j).deadline) / (task_at s j).period = (le-div_iff_mul-le {k = (task_at s j).period} {x = k} {y = (a + (task_at s i).deadline) - (task_at s j).deadline} (task_ranges s checked j hj).period_low).1 (omega arith) in
            omega (arith, cond-true (leb (task_at s j).deadline (a + (task_at s i).deadline)) (1 + ((a + (task_at s i).deadline) - (task_at s j).deadline) / (task_at s j).period) 0 (le-leb (task_at s j).deadline (a + (task_at s i).deadline) (omega arith)))

    term : ℕ → ℕ → ℕ
    term t j = cond (leb (task_at s j).deadline t) ((1 + (t - (task_at s j).deadline) / (task_at s j).period) * (task_at s j).cost) 0

    term_times : (t j : ℕ) → due_by j t * (task_at s j).cost ≡ term t j
    unfolding term
    term_times t j = go (leb (task_at s j).deadline t)
      where
        go : (b : Bool) → cond b (1 + (t - (task_at s j).deadline) / (task_at s j).period) 0 * (task_at s j).cost ≡ cond b ((1 + (t - (task_at s j).deadline) / (task_at s j).period) * (task_at s j).cost) 0
        go true = refl
        go false = omega arith

    own_term : term (a + (task_at s i).deadline) i ≡ (1 + a / (task_at s i).period) * (task_at s i).cost
    unfolding term
    own_term =
        let e : (a + (task_at s i).deadline) - (task_at s i).deadline ≡ a = omega arith in
        cond-true (leb (task_at s i).deadline (a + (task_at s i).deadline)) ((1 + ((a + (task_at s i).deadline) - (task_at s i).deadline) / (task_at s i).period) * (task_at s i).cost) 0 (le-leb (task_at s i).deadline (a + (task_at s i).deadline) (omega arith)) ∙ ap (λ z. (1 + z / (task_at s i).period) * (task_at s i).cost) e

    -- the work of the job, of its task's earlier jobs and of all that is ahead is due by its deadline
    pub work_due : (u : ℕ) → (1 + a / (task_at s i).period) * (task_at s i).cost + work_ahead s (deadline_order s) i a u ≤ demand s (a + (task_at s i).deadline)
    unfolding term
    work_due u = omega (
      arith,
      own_term,
      sum_split (task_count s) i (term (a + (task_at s i).deadline)) here,
      sum_mono (task_count s) (λ j. cond (eqb j i) 0 (jobs_ahead s (deadline_order s) i a j u * (task_at s j).cost)) (λ j. cond (eqb j i) 0 (term (a + (task_at s i).deadline) j)) (λ j lt. go j lt (eqb j i)),
    )
      where
        go : (j : ℕ) → j < task_count s → (b : Bool) → cond b 0 (jobs_ahead s (deadline_order s) i a j u * (task_at s j).cost) ≤ cond b 0 (term (a + (task_at s i).deadline) j)
        go j lt true = omega arith
        go j lt false = omega (arith, mul-le-mul_right (task_at s j).cost (jobs_due j u lt), term_times (a + (task_at s i).deadline) j)

    pub blocking_due : blocking s (deadline_order s) i a ≤ demand_blocking NonPreemptive s (a + (task_at s i).deadline)
    blocking_due = max_mono (task_count s) (λ j. cond (eqb j i) 0 (cond ((deadline_order s).ahead (job i (pos a)) (job j (negsuc 0))) ((task_at s j).cost - 1) 0)) (λ j. cond (ltb (a + (task_at s i).deadline) (task_at s j).deadline) ((task_at s j).cost - 1) 0) (λ j lt. go j (eqb j i) (cases_Bool ((deadline_order s).ahead (job i (pos a)) (job j (negsuc 0)))))
      where
        go : (j : ℕ) (b : Bool) → ((deadline_order s).ahead (job i (pos a)) (job j (negsuc 0)) ≡ true) ⊎ ((deadline_order s).ahead (job i (pos a)) (job j (negsuc 0)) ≡ false) → cond b 0 (cond ((deadline_order s).ahead (job i (pos a)) (job j (negsuc 0))) ((task_at s j).cost - 1) 0) ≤ cond (ltb (a + (task_at s i).deadline) (task_at s j).deadline) ((task_at s j).cost - 1) 0
        go j true q = omega arith
        go j false (inl q) = omega (arith, cond-true ((deadline_order s).ahead (job i (pos a)) (job j (negsuc 0))) ((task_at s j).cost - 1) 0 q, cond-true (ltb (a + (task_at s i).deadline) (task_at s j).deadline) ((task_at s j).cost - 1) 0 (lt-ltb (a + (task_at s i).deadline) (task_at s j).deadline (key_late i j a (task_at s i).deadline (task_at s j).deadline q)))
        go j false (inr q) = omega (arith, cond-false ((deadline_order s).ahead (job i (pos a)) (job j (negsuc 0))) ((task_at s j).cost - 1) 0 q)
