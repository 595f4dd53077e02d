-- Counts along an increasing map, and of numbers that stand at least T apart.
use Rattle.std.proofs.Common.{◌≡◌, ℕ, zero, suc, ◌+◌, ◌*◌, ◌<◌, ◌≤◌, Bool, true, false, cond, ◌⊎◌, refl, ap, inl, inr, suc-mul, arith}
use Rattle.std.proofs.lemmas.Bool.{cases_Bool, cond-true, cond-false}
use Rattle.theory.specs.Sums.{count_below}
use Rattle.theory.proofs.Sums.{count_mono}

pub counts : (b : Bool) → b ≡ true → ◌≡◌ {A = ℕ} (cond b 1 0) 1
counts b e = cond-true b 1 0 e

pub counts_not : (b : Bool) → b ≡ false → ◌≡◌ {A = ℕ} (cond b 1 0) 0
counts_not b e = cond-false b 1 0 e

-- what passes q includes the images under f of what passes p
pub count_along : (f : ℕ → ℕ) (p q : ℕ → Bool) (m t : ℕ) → ((k l : ℕ) → k < l → f k < f l) → ((k : ℕ) → k < m → p k ≡ true → (f k < t) × (q (f k) ≡ true)) → count_below m p ≤ count_below t q
unfolding count_below
count_along f p q zero t up h = omega arith
count_along f p q (suc m) t up h = go (cases_Bool (p m)) (λ u low. count_along f p q m u up low)
  where
    go : (p m ≡ true) ⊎ (p m ≡ false) → ((u : ℕ) → ((k : ℕ) → k < m → p k ≡ true → (f k < u) × (q (f k) ≡ true)) → count_below m p ≤ count_below u q) → count_below m p + cond (p m) 1 0 ≤ count_below t q
    go (inl e) below =
        let last = h m (omega arith) e in
        let rest : count_below m p ≤ count_below (f m) q = below (f m) (λ k lt g. (up k m lt, (h k (omega arith) g).1)) in
        let more : count_below (suc (f m)) q ≤ count_below t q = count_mono (suc (f m)) t q q last.0 (λ k lt g. g) in
        omega (arith, counts (p m) e, counts (q (f m)) last.1)
    go (inr e) below = omega (arith, below t (λ k lt g. h k (omega arith) g), counts_not (p m) e)

pub count_one : (q : ℕ → Bool) (t u : ℕ) → u < t → q u ≡ true → 1 ≤ count_below t q
unfolding count_below
count_one q t u lt e =
    let more : count_below (suc u) q ≤ count_below t q = count_mono (suc u) t q q lt (λ k _ g. g) in
    omega (arith, counts (q u) e)

pub count_none : (q : ℕ → Bool) (t : ℕ) → ((u : ℕ) → u < t → q u ≡ false) → count_below t q ≡ 0
unfolding count_below
count_none q zero h = refl
count_none q (suc t) h = omega (arith, count_none q t (λ u lt. h u (omega arith)), counts_not (q t) (h t (omega arith)))

-- numbers from x on that stand T apart: the last of them lies (count - 1)·T or more past x
pub count_spaced : (q : ℕ → Bool) (T x t : ℕ) → ((u : ℕ) → q u ≡ true → x ≤ u) → ((u v : ℕ) → q u ≡ true → q v ≡ true → u < v → u + T ≤ v)
    → (count_below t q ≡ 0) ⊎ ((u : ℕ) × (u < t) × (q u ≡ true) × (x + count_below t q * T ≤ u + T))
unfolding count_below
count_spaced q T x zero low apart = inl refl
count_spaced q T x (suc t) low apart = go (cases_Bool (q t)) (count_spaced q T x t low apart)
  where
    go : (q t ≡ true) ⊎ (q t ≡ false) → (count_below t q ≡ 0) ⊎ ((u : ℕ) × (u < t) × (q u ≡ true) × (x + count_below t q * T ≤ u + T))
        → (count_below (suc t) q ≡ 0) ⊎ ((u : ℕ) × (u < suc t) × (q u ≡ true) × (x + count_below (suc t) q * T ≤ u + T))
    go (inl e) (inl z) =
        let one : count_below t q + cond (q t) 1 0 ≡ 1 = omega (arith, counts (q t) e) in
        inr (t, omega arith, e, omega (arith, low t e, ap (λ (z : ℕ). z * T) one))
    go (inl e) (inr (u, lt, g, far)) =
        let one : count_below t q + cond (q t) 1 0 ≡ suc (count_below t q) = omega (arith, counts (q t) e) in
        inr (t, omega arith, e, omega (arith, apart u t g e lt, ap (λ (z : ℕ). z * T) one, suc_times (count_below t q)))
      where
        suc_times : (k : ℕ) → suc k * T ≡ k * T + T
        suc_times k = suc-mul k T
    go (inr e) (inl z) = inl (omega (arith, counts_not (q t) e))
    go (inr e) (inr (u, lt, g, far)) =
        let none : count_below t q + cond (q t) 1 0 ≡ count_below t q = omega (arith, counts_not (q t) e) in
        inr (u, omega arith, g, omega (arith, ap (λ (z : ℕ). z * T) none))
