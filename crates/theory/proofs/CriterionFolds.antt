-- The demand by t, with what may block it, is no more than a busy period and the demand by t less that busy period.
use Rattle.std.proofs.Common.{◌≡◌, ℕ, suc, ◌+◌, ◌-◌, ◌*◌, ◌/◌, ◌<◌, ◌≤◌, true, false, cond, eqb, ltb, leb, ◌⊎◌, refl, ap, ◌∙◌, inl, inr, mul-le-mul_right, add-mul, arith}
use Rattle.std.proofs.lemmas.Bool.{cases_eq, cases_lt, cases_Bool, cond-true, cond-false, eq-eqb, ne_eqb, le-leb, lt-leb, ltb-true}
use Rattle.table.specs.Rules.{TaskSet, Checked, task_at, task_count}
use Rattle.table.specs.declared.kinds.Mode.{Mode}
use Rattle.table.specs.declared.kinds.Mode.TheVariants.{NonPreemptive, Preemptive}
use Rattle.table.proofs.Ranges.{task_ranges}
use Rattle.theory.specs.BusyPeriod.{ceil_div, BusyPeriod}
use Rattle.theory.specs.DemandCriterion.{demand, demand_blocking}
use Rattle.theory.proofs.Sums.{sum_mono, sum_add, sum_single, max_taken}
use Rattle.theory.proofs.Divisions.{ceil_add, ceil_suc, ceil_mono, ceil_above}

-- what may block by t comes from one task due later, or there is nothing
pub blocking_source : (m : Mode) (s : TaskSet) (t : ℕ) → (demand_blocking m s t ≡ 0) ⊎ ((p : ℕ) × (p < task_count s) × (m ≡ NonPreemptive) × (t < (task_at s p).deadline) × (demand_blocking m s t ≡ (task_at s p).cost - 1))
blocking_source Preemptive s t = inl refl
blocking_source NonPreemptive s t = go (max_taken (task_count s) (λ j. cond (ltb t (task_at s j).deadline) ((task_at s j).cost - 1) 0))
  where
    go : (demand_blocking NonPreemptive s t ≡ 0) ⊎ ((j : ℕ) × (j < task_count s) × (demand_blocking NonPreemptive s t ≡ cond (ltb t (task_at s j).deadline) ((task_at s j).cost - 1) 0)) → (demand_blocking NonPreemptive s t ≡ 0) ⊎ ((p : ℕ) × (p < task_count s) × (NonPreemptive ≡ NonPreemptive) × (t < (task_at s p).deadline) × (demand_blocking NonPreemptive s t ≡ (task_at s p).cost - 1))
    go (inl e) = inl e
    go (inr (j, lt, e)) = two (cases_Bool (ltb t (task_at s j).deadline))
      where
        two : (ltb t (task_at s j).deadline ≡ true) ⊎ (ltb t (task_at s j).deadline ≡ false) → (demand_blocking NonPreemptive s t ≡ 0) ⊎ ((p : ℕ) × (p < task_count s) × (NonPreemptive ≡ NonPreemptive) × (t < (task_at s p).deadline) × (demand_blocking NonPreemptive s t ≡ (task_at s p).cost - 1))
        two (inl q) = inr (j, lt, refl, ltb-true t (task_at s j).deadline q, e ∙ cond-true (ltb t (task_at s j).deadline) ((task_at s j).cost - 1) 0 q)
        two (inr q) = inl (e ∙ cond-false (ltb t (task_at s j).deadline) ((task_at s j).cost - 1) 0 q)

module _ (s : TaskSet) (checked : Checked s) (L : ℕ) (busy : BusyPeriod s L) (t : ℕ) (long : L ≤ t) where
  term : ℕ → ℕ → ℕ
  term u j = cond (leb (task_at s j).deadline u) ((1 + (u - (task_at s j).deadline) / (task_at s j).period) * (task_at s j).cost) 0

  share : ℕ → ℕ
  share j = ceil_div L (task_at s j).period * (task_at s j).cost

  term_in : (u j : ℕ) → (task_at s j).deadline ≤ u → term u j ≡ (1 + (u - (task_at s j).deadline) / (task_at s j).period) * (task_at s j).cost
  unfolding term
  term_in u j le = cond-true (leb (task_at s j).deadline u) ((1 + (u - (task_at s j).deadline) / (task_at s j).period) * (task_at s j).cost) 0 (le-leb (task_at s j).deadline u le)

  term_out : (u j : ℕ) → u < (task_at s j).deadline → term u j ≡ 0
  unfolding term
  term_out u j lt = cond-false (leb (task_at s j).deadline u) ((1 + (u - (task_at s j).deadline) / (task_at s j).period) * (task_at s j).cost) 0 (lt-leb (task_at s j).deadline u lt)

  folds : (j : ℕ) → j < task_count s → term t j ≤ share j + term (t - L) j
  unfolding share
  folds j hj = go (cases_lt t (task_at s j).deadline) (cases_lt (t - L) (task_at s j).deadline)
    where
      low : 1 ≤ (task_at s j).period
      low = (task_ranges s checked j hj).period_low

      go : (t < (task_at s j).deadline) ⊎ ((task_at s j).deadline ≤ t) → (t - L < (task_at s j).deadline) ⊎ ((task_at s j).deadline ≤ t - L) → term t j ≤ share j + term (t - L) j
      go (inl lt) b = omega (arith, term_out t j lt)
      go (inr le) (inl lt) =
          let small : ceil_div (suc (t - (task_at s j).deadline)) (task_at s j).period ≤ ceil_div L (task_at s j).period = ceil_mono (suc (t - (task_at s j).deadline)) L (task_at s j).period low (omega arith) in
          omega (arith, term_in t j le, mul-le-mul_right (task_at s j).cost small, ap (λ z. z * (task_at s j).cost) (ceil_suc (t - (task_at s j).deadline) (task_at s j).period low))
      go (inr le) (inr more) =
          let e : L + suc ((t - L) - (task_at s j).deadline) ≡ suc (t - (task_at s j).deadline) = omega arith in
          omega (
            arith,
            term_in t j le,
            term_in (t - L) j more,
            ap (λ z. z * (task_at s j).cost) (ceil_suc (t - (task_at s j).deadline) (task_at s j).period low),
            ap (λ z. ceil_div z (task_at s j).period * (task_at s j).cost) e,
            mul-le-mul_right (task_at s j).cost (ceil_add L (suc ((t - L) - (task_at s j).deadline)) (task_at s j).period low),
            add-mul (ceil_div L (task_at s j).period) (ceil_div (suc ((t - L) - (task_at s j).deadline)) (task_at s j).period) (task_at s j).cost,
            ap (λ z. z * (task_at s j).cost) (ceil_suc ((t - L) - (task_at s j).deadline) (task_at s j).period low),
          )

  -- a task that is due later has no demand by t, but a share of the busy period
  with_one : (p : ℕ) → p < task_count s → t < (task_at s p).deadline → demand s t + ((task_at s p).cost - 1) ≤ L + demand s (t - L)
  unfolding term share
  with_one p hp late = omega (
    arith,
    busy.solves,
    sum_add (task_count s) (term t) extra,
    sum_single (task_count s) p extra hp (λ j lt ne. cond-false (eqb j p) ((task_at s p).cost - 1) 0 (ne_eqb j p ne)),
    cond-true (eqb p p) ((task_at s p).cost - 1) 0 (eq-eqb p p refl),
    sum_add (task_count s) share (term (t - L)),
    sum_mono (task_count s) (λ j. term t j + extra j) (λ j. share j + term (t - L) j) (λ j lt. each j lt (cases_eq j p)),
  )
    where
      extra : ℕ → ℕ
      extra j = cond (eqb j p) ((task_at s p).cost - 1) 0

      each : (j : ℕ) → j < task_count s → (j ≡ p) ⊎ (j ≡ p → ⊥) → term t j + extra j ≤ share j + term (t - L) j
      each j lt (inr ne) = omega (arith, folds j lt, cond-false (eqb j p) ((task_at s p).cost - 1) 0 (ne_eqb j p ne))
      each j lt (inl e) =
          let one : 1 * (task_at s j).cost ≤ ceil_div L (task_at s j).period * (task_at s j).cost = mul-le-mul_right (task_at s j).cost (ceil_above L (task_at s j).period 0 (task_ranges s checked j lt).period_low (omega (arith, busy.from))) in
          omega (arith, one, cond-true (eqb j p) ((task_at s p).cost - 1) 0 (eq-eqb j p e), term_out t j (omega (arith, ap (λ z. (task_at s z).deadline) e)), ap (λ z. (task_at s z).cost) e)

  with_none : demand s t ≤ L + demand s (t - L)
  unfolding term share
  with_none = omega (arith, busy.solves, sum_add (task_count s) share (term (t - L)), sum_mono (task_count s) (term t) (λ j. share j + term (t - L) j) folds)

  pub demand_folds : demand s t + demand_blocking s.mode s t ≤ L + demand s (t - L)
  demand_folds = go (blocking_source s.mode s t)
    where
      go : (demand_blocking s.mode s t ≡ 0) ⊎ ((p : ℕ) × (p < task_count s) × (s.mode ≡ NonPreemptive) × (t < (task_at s p).deadline) × (demand_blocking s.mode s t ≡ (task_at s p).cost - 1)) → demand s t + demand_blocking s.mode s t ≤ L + demand s (t - L)
      go (inl e) = omega (arith, with_none)
      go (inr (p, hp, m, late, e)) = omega (arith, with_one p hp late)
