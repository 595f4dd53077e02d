-- A family of recurrences W q whose least solutions past q·T ≥ level add nothing: W (q + ceil(level/T)) (level + t) ≤ level + W q t.
use Rattle.std.proofs.Common.{◌≡◌, ℕ, zero, suc, ◌+◌, ◌-◌, ◌*◌, ◌<◌, ◌≤◌, ◌⊎◌, ap, inl, inr, mul-le-mul_right, add-mul, arith}
use Rattle.std.proofs.lemmas.Bool.{cases_lt}
use Rattle.theory.specs.LeastSolution.{LeastSolution}
use Rattle.theory.specs.BusyPeriod.{ceil_div}
use Rattle.theory.proofs.Solutions.{Monotone}
use Rattle.theory.proofs.Demand.{least_under}
use Rattle.theory.proofs.Divisions.{ceil_least, ceil_covers, ceil_above}

module _ (low T level : ℕ) (W : ℕ → ℕ → ℕ) (period : 1 ≤ T) (some : 1 ≤ level) (mono : (q : ℕ) → Monotone (W q)) (first : (q : ℕ) → low ≤ W q low)
    (moved : (q t : ℕ) → W (q + ceil_div level T) (level + t) ≤ level + W q t) where
  -- a solution w of W q is not above one of W p, with p·T below the level, by more than q is above p
  pub descend : (L : ℕ) → ((q : ℕ) → q * T < L → (w : ℕ) × LeastSolution low (W q) w) → (q w : ℕ) → q * T < L → LeastSolution low (W q) w → (p : ℕ) × (v : ℕ) × (p * T < level) × LeastSolution low (W p) v × (w + p * T ≤ v + q * T)
  descend L exists q w inside sol = upto (suc q) q w (omega arith) inside sol
    where
      upto : (fuel q w : ℕ) → q < fuel → q * T < L → LeastSolution low (W q) w → (p : ℕ) × (v : ℕ) × (p * T < level) × LeastSolution low (W p) v × (w + p * T ≤ v + q * T)
      upto zero q w lt ins here = absurd (omega arith)
      upto (suc fuel) q w lt ins here = go (cases_lt (q * T) level) (λ p v less inp mine. upto fuel p v less inp mine)
        where
          step : ℕ
          step = ceil_div level T

          back : ℕ
          back = q - step

          go : (q * T < level) ⊎ (level ≤ q * T) → ((p v : ℕ) → p < fuel → p * T < L → LeastSolution low (W p) v → (x : ℕ) × (y : ℕ) × (x * T < level) × LeastSolution low (W x) y × (v + x * T ≤ y + p * T)) → (p : ℕ) × (v : ℕ) × (p * T < level) × LeastSolution low (W p) v × (w + p * T ≤ v + q * T)
          go (inl less) again = (q, w, less, here, omega arith)
          go (inr le) again = two (exists back (omega (arith, mul-le-mul_right T fewer))) (omega (arith, covered))
            where
              covered : step ≤ q
              covered = ceil_least level T q period le

              fewer : back ≤ q
              fewer = omega arith

              two : (v : ℕ) × LeastSolution low (W back) v → back + step ≡ q → (x : ℕ) × (y : ℕ) × (x * T < level) × LeastSolution low (W x) y × (w + x * T ≤ y + q * T)
              two (v, mine) e =
                  let shifted : w ≤ level + v = least_under low (W q) w (level + v) here (mono q) (first q) (omega (arith, mine.from)) (omega (arith, ap (λ z. W z (level + v)) e, moved back v, mine.solves)) in
                  let one : 1 ≤ step = ceil_above level T 0 period (omega arith) in
                  let r = again back v (omega arith) (omega (arith, mul-le-mul_right T fewer)) mine in
                  (r.0, r.1, r.2, r.3, omega (arith, r.4, ap (λ z. z * T) e, add-mul back step T, ceil_covers level T period))
