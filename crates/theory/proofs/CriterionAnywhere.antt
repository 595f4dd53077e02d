-- The criterion at the deadline points gives the same at every t that has a deadline point at or before it.
use Rattle.std.proofs.Common.{◌≡◌, ℕ, ◌+◌, ◌-◌, ◌*◌, ◌/◌, ◌<◌, ◌≤◌, true, false, cond, ltb, leb, ◌⊎◌, sym, ◌∙◌, subst, inl, inr, mul-le-mul_right, le-div_iff_mul-le, div-mul-le_self, arith}
use Rattle.std.proofs.lemmas.Bool.{cases_Bool, cond-true, cond-false, leb-true, le-leb, ltb-true, lt-ltb}
use Rattle.table.specs.Rules.{TaskSet, Checked, task_at, task_count}
use Rattle.table.specs.declared.kinds.Mode.{Mode}
use Rattle.table.specs.declared.kinds.Mode.TheVariants.{NonPreemptive, Preemptive}
use Rattle.table.proofs.Ranges.{task_ranges}
use Rattle.theory.specs.Sums.{max_below}
use Rattle.theory.specs.DemandCriterion.{demand, demand_blocking, FitsBy, Criterion}
use Rattle.theory.proofs.Sums.{sum_mono, max_at, max_taken}
use Rattle.theory.proofs.Works.{cond_le}

-- a maximum of smaller values is smaller
pub max_mono : (n : ℕ) (f g : ℕ → ℕ) → ((j : ℕ) → j < n → f j ≤ g j) → max_below n f ≤ max_below n g
max_mono n f g h = go (max_taken n f)
  where
    go : (max_below n f ≡ 0) ⊎ ((j : ℕ) × (j < n) × (max_below n f ≡ f j)) → max_below n f ≤ max_below n g
    go (inl e) = omega arith
    go (inr (j, lt, e)) = omega (arith, h j lt, max_at n j g lt)

-- blocking falls with t
pub blocking_falls : (m : Mode) (s : TaskSet) (x t : ℕ) → x ≤ t → demand_blocking m s t ≤ demand_blocking m s x
blocking_falls Preemptive s x t le = omega arith
blocking_falls NonPreemptive s x t le = max_mono (task_count s) (λ j. cond (ltb t (task_at s j).deadline) ((task_at s j).cost - 1) 0) (λ j. cond (ltb x (task_at s j).deadline) ((task_at s j).cost - 1) 0)
    (λ j lt. cond_le (ltb t (task_at s j).deadline) (ltb x (task_at s j).deadline) ((task_at s j).cost - 1) ((task_at s j).cost - 1) (λ h. inr (lt-ltb x (task_at s j).deadline (omega (arith, ltb-true t (task_at s j).deadline h)), omega arith)))

module _ (s : TaskSet) (checked : Checked s) where
  -- the last deadline point of j up to t
  point : ℕ → ℕ → ℕ
  point t j = cond (leb (task_at s j).deadline t) ((task_at s j).deadline + (t - (task_at s j).deadline) / (task_at s j).period * (task_at s j).period) 0

  point_of : (t j : ℕ) → (task_at s j).deadline ≤ t → point t j ≡ (task_at s j).deadline + (t - (task_at s j).deadline) / (task_at s j).period * (task_at s j).period
  unfolding point
  point_of t j le = cond-true (leb (task_at s j).deadline t) ((task_at s j).deadline + (t - (task_at s j).deadline) / (task_at s j).period * (task_at s j).period) 0 (le-leb (task_at s j).deadline t le)

  point_none : (t j : ℕ) → leb (task_at s j).deadline t ≡ false → point t j ≡ 0
  unfolding point
  point_none t j e = cond-false (leb (task_at s j).deadline t) ((task_at s j).deadline + (t - (task_at s j).deadline) / (task_at s j).period * (task_at s j).period) 0 e

  point_low : (t j : ℕ) → point t j ≤ t
  point_low t j = go (cases_Bool (leb (task_at s j).deadline t))
    where
      go : (leb (task_at s j).deadline t ≡ true) ⊎ (leb (task_at s j).deadline t ≡ false) → point t j ≤ t
      go (inl e) = omega (arith, point_of t j (leb-true (task_at s j).deadline t e), leb-true (task_at s j).deadline t e, div-mul-le_self (t - (task_at s j).deadline) (task_at s j).period)
      go (inr e) = omega (arith, point_none t j e)

  -- from a point that is behind none of them, the demand is the same
  demand_kept : (t x : ℕ) → ((j : ℕ) → j < task_count s → point t j ≤ x) → demand s t ≤ demand s x
  demand_kept t x h = sum_mono (task_count s) (λ j. cond (leb (task_at s j).deadline t) ((1 + (t - (task_at s j).deadline) / (task_at s j).period) * (task_at s j).cost) 0) (λ j. cond (leb (task_at s j).deadline x) ((1 + (x - (task_at s j).deadline) / (task_at s j).period) * (task_at s j).cost) 0)
      (λ j lt. cond_le (leb (task_at s j).deadline t) (leb (task_at s j).deadline x) ((1 + (t - (task_at s j).deadline) / (task_at s j).period) * (task_at s j).cost) ((1 + (x - (task_at s j).deadline) / (task_at s j).period) * (task_at s j).cost) (λ e. each j lt (leb-true (task_at s j).deadline t e)))
    where
      each : (j : ℕ) → j < task_count s → (task_at s j).deadline ≤ t → ((1 + (t - (task_at s j).deadline) / (task_at s j).period) * (task_at s j).cost ≡ 0) ⊎ ((leb (task_at s j).deadline x ≡ true) × ((1 + (t - (task_at s j).deadline) / (task_at s j).period) * (task_at s j).cost ≤ (1 + (x - (task_at s j).deadline) / (task_at s j).period) * (task_at s j).cost))
      each j lt le =
          let past : (task_at s j).deadline + (t - (task_at s j).deadline) / (task_at s j).period * (task_at s j).period ≤ x = omega (arith, point_of t j le, h j lt) in
          let more : (t - (task_at s j).deadline) / (task_at s j).period ≤ (x - (task_at s j).deadline) / (task_at s j).period = (le-div_iff_mul-le {k = (task_at s j).period} {x = (t - (task_at s j).deadline) / (task_at s j).period} {y = x - (task_at s j).deadline} (task_ranges s checked j lt).period_low).1 (omega arith) in
          inr (le-leb (task_at s j).deadline x (omega arith), mul-le-mul_right (task_at s j).cost (omega arith))

  pub fits_anywhere : Criterion s → (i t : ℕ) → i < task_count s → (task_at s i).deadline ≤ t → FitsBy s t
  fits_anywhere criterion i t here le = go (max_taken (task_count s) (point t))
    where
      last : ℕ
      last = max_below (task_count s) (point t)

      some : 1 ≤ last
      some = omega (arith, max_at (task_count s) i (point t) here, point_of t i le, (task_ranges s checked i here).deadline_low)

      go : (last ≡ 0) ⊎ ((j : ℕ) × (j < task_count s) × (last ≡ point t j)) → FitsBy s t
      go (inl e) = absurd (omega (arith, some))
      go (inr (j, lt, e)) = two (cases_Bool (leb (task_at s j).deadline t))
        where
          two : (leb (task_at s j).deadline t ≡ true) ⊎ (leb (task_at s j).deadline t ≡ false) → FitsBy s t
          two (inl q) =
              let at : FitsBy s last = subst (λ z. FitsBy s z) (sym (e ∙ point_of t j (leb-true (task_at s j).deadline t q))) (criterion j ((t - (task_at s j).deadline) / (task_at s j).period) lt) in
              omega (arith, at, e, point_low t j, demand_kept t last (λ k hk. max_at (task_count s) k (point t) hk), blocking_falls s.mode s last t (omega (arith, e, point_low t j)))
          two (inr q) = absurd (omega (arith, some, e, point_none t j q))
