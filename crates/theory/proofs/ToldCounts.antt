-- How many releases the worst course of (i, a) tells by time t: of the other tasks as many as the analysis counts, of task i one for each period up to a.
use Rattle.std.proofs.Common.{◌≡◌, ℕ, suc, ◌+◌, ◌-◌, ◌*◌, ◌/◌, ◌%◌, ◌<◌, ◌≤◌, true, false, ◌&&◌, eqb, ltb, pos, refl, ◌∙◌, le_trans, le_refl, mul-le-mul_right, suc-mul, arith}
use native.Mathlib.Nat.{mod-add-div'}
use Rattle.std.proofs.lemmas.Bool.{eq-eqb, ltb-true, lt-ltb, and_parts, and_from}
use Rattle.table.specs.Rules.{TaskSet, Checked, task_at, task_count}
use Rattle.table.proofs.Ranges.{task_ranges}
use Rattle.policy.specs.Order.{Order, job}
use Rattle.policy.specs.Laws.{Lawful}
use Rattle.theory.specs.Sums.{count_below}
use Rattle.theory.specs.Response.{jobs_ahead}
use Rattle.theory.specs.Course.{lead, releases_at}
use Rattle.theory.proofs.Sums.{count_at_least}
use Rattle.theory.proofs.Spread.{count_along, count_one}
use Rattle.theory.proofs.Orders.{leads, leads_other, ahead_shift}
use Rattle.theory.proofs.Told.{once, told_own, told_other, told_last, from_at, between_at}

rises : (T c : ℕ) → 1 ≤ T → (k l : ℕ) → k < l → c + k * T < c + l * T
rises T c h k l lt = omega (arith, suc-mul k T, mul-le-mul_right T lt)

module _ (s : TaskSet) (o : Order) (checked : Checked s) (law : Lawful s o) (i a : ℕ) (hi : i < task_count s) where
  pub told_ahead : (j t : ℕ) → j < task_count s → (j ≡ i → ⊥) → once s o i a j ≡ false → lead s o i a ≤ t
      → jobs_ahead s o i a j (suc (t - lead s o i a)) ≤ count_below (suc t) (λ u. releases_at s o i a j u && leads o i (lead s o i a + a) j u)
  told_ahead j t hj ne often from = count_along (λ k. lead s o i a + k * (task_at s j).period) _ _ (suc (t - lead s o i a)) (suc t) (rises (task_at s j).period (lead s o i a) (task_ranges s checked j hj).period_low) here
    where
      moved : (l x : ℕ) → leads o i (l + a) j (l + x) ≡ o.ahead (job j (pos x)) (job i (pos a))
      moved l x =
          let e : l + a ≡ a + l = omega arith in
          let f : l + x ≡ x + l = omega arith in
          leads_other s o law i (l + a) j (l + x) ne ∙ (rw (e, f) (ahead_shift s o law i j x a l hi hj ne))

      here : (k : ℕ) → k < suc (t - lead s o i a) → (ltb (k * (task_at s j).period) (suc (t - lead s o i a)) && o.ahead (job j (pos (k * (task_at s j).period))) (job i (pos a))) ≡ true
          → (lead s o i a + k * (task_at s j).period < suc t) × ((releases_at s o i a j (lead s o i a + k * (task_at s j).period) && leads o i (lead s o i a + a) j (lead s o i a + k * (task_at s j).period)) ≡ true)
      here k lt h =
          let p = and_parts (ltb (k * (task_at s j).period) (suc (t - lead s o i a))) _ h in
          let q = ltb-true (k * (task_at s j).period) (suc (t - lead s o i a)) p.0 in (
            omega arith,
            and_from (releases_at s o i a j (lead s o i a + k * (task_at s j).period)) _
                (told_other s o i a j (lead s o i a + k * (task_at s j).period) ne often ∙ from_at (task_at s j).period (lead s o i a) k)
                (moved (lead s o i a) (k * (task_at s j).period) ∙ p.1),
          )

  -- the releases of task i before the last one
  pub told_earlier : (t : ℕ) → lead s o i a + a ≤ t → a / (task_at s i).period ≤ count_below (suc t) (λ u. releases_at s o i a i u && ltb u (lead s o i a + a))
  told_earlier t by = le_trans (count_at_least (a / (task_at s i).period) (a / (task_at s i).period) (λ k. true) (le_refl _) (λ k lt. refl))
      (count_along (λ k. lead s o i a + a % (task_at s i).period + k * (task_at s i).period) (λ k. true) _ (a / (task_at s i).period) (suc t) (rises (task_at s i).period (lead s o i a + a % (task_at s i).period) (task_ranges s checked i hi).period_low) (λ k lt h. here k lt))
    where
      here : (k : ℕ) → k < a / (task_at s i).period
          → (lead s o i a + a % (task_at s i).period + k * (task_at s i).period < suc t) × ((releases_at s o i a i (lead s o i a + a % (task_at s i).period + k * (task_at s i).period) && ltb (lead s o i a + a % (task_at s i).period + k * (task_at s i).period) (lead s o i a + a)) ≡ true)
      here k lt =
          let below : lead s o i a + a % (task_at s i).period + k * (task_at s i).period < lead s o i a + a = omega (arith, mod-add-div' a (task_at s i).period, suc-mul k (task_at s i).period, mul-le-mul_right (task_at s i).period lt, (task_ranges s checked i hi).period_low) in (
            omega arith,
            and_from (releases_at s o i a i (lead s o i a + a % (task_at s i).period + k * (task_at s i).period)) _
                (told_own s o i a (lead s o i a + a % (task_at s i).period + k * (task_at s i).period) ∙ between_at (task_at s i).period (lead s o i a + a % (task_at s i).period) (lead s o i a + a) k (omega arith))
                (lt-ltb _ (lead s o i a + a) below),
          )

  -- and the last one
  pub told_here : (t : ℕ) → lead s o i a + a ≤ t → 1 ≤ count_below (suc t) (λ u. releases_at s o i a i u && eqb u (lead s o i a + a))
  told_here t by = count_one _ (suc t) (lead s o i a + a) (omega arith) (and_from (releases_at s o i a i (lead s o i a + a)) _ (told_last s o i a) (eq-eqb (lead s o i a + a) (lead s o i a + a) refl))
