-- Least solutions of t = W t: where none can be yet, and that there is one.
use Rattle.std.proofs.Common.{◌≡◌, ℕ, zero, suc, ◌+◌, ◌-◌, ◌<◌, ◌≤◌, ◌⊎◌, sym, ◌∙◌, subst, inl, inr, arith}
use Rattle.std.proofs.lemmas.Bool.{cases_eq, cases_lt}
use Rattle.theory.specs.LeastSolution.{LeastSolution}

abbrev pub Monotone : (ℕ → ℕ) → Type 0
Monotone W = (x y : ℕ) → x ≤ y → W x ≤ W y

-- while u < W u everywhere up to t, the least solution lies beyond t
pub beyond : (low : ℕ) (W : ℕ → ℕ) (F t : ℕ) → LeastSolution low W F → ((u : ℕ) → low ≤ u → u ≤ t → u < W u) → t < F
beyond low W F t sol h = go (cases_lt t F)
  where
    go : (t < F) ⊎ (F ≤ t) → t < F
    go (inl lt) = lt
    go (inr le) = absurd (omega (arith, h F sol.from le, sol.solves))

-- two equal functions have the same solutions
pub same_solution : (low : ℕ) (V W : ℕ → ℕ) (t : ℕ) → ((u : ℕ) → V u ≡ W u) → LeastSolution low V t → LeastSolution low W t
same_solution low V W t same sol = record { from = sol.from; solves = sol.solves ∙ same t; least = λ v from e. sol.least v from (e ∙ sym (same v)) }

-- W c ≤ c somewhere: there is a least solution, not above c
pub solution : (low : ℕ) (W : ℕ → ℕ) (c : ℕ) → Monotone W → low ≤ W low → low ≤ c → W c ≤ c → (t : ℕ) × LeastSolution low W t × (t ≤ c)
solution low W c mono first up cap = climb (c - low) low (omega arith) (omega arith) (λ v le lt. absurd (omega arith))
  where
    found : (t : ℕ) → low ≤ t → t ≤ c → ((v : ℕ) → low ≤ v → v < t → v < W v) → W t ≤ t → (u : ℕ) × LeastSolution low W u × (u ≤ c)
    found t from upto none here = (t, record { from = from; solves = exact (cases_eq t low); least = λ v le e. least v le e (cases_lt v t) }, upto)
      where
        exact : (t ≡ low) ⊎ (t ≡ low → ⊥) → t ≡ W t
        exact (inl e) = omega (arith, subst (λ z. z ≤ W z) (sym e) first)
        exact (inr ne) = omega (arith, ne, none (t - 1) (omega (arith, ne)) (omega (arith, ne)), mono (t - 1) t (omega arith))

        least : (v : ℕ) → low ≤ v → v ≡ W v → (v < t) ⊎ (t ≤ v) → t ≤ v
        least v le e (inl lt) = absurd (omega (arith, none v le lt))
        least v le e (inr ge) = ge

    climb : (d t : ℕ) → low ≤ t → t + d ≡ c → ((v : ℕ) → low ≤ v → v < t → v < W v) → (u : ℕ) × LeastSolution low W u × (u ≤ c)
    climb zero t from e none = found t from (omega arith) none (omega (arith, mono t c (omega arith)))
    climb (suc d) t from e none = go (cases_lt t (W t)) (λ more. climb d (suc t) (omega arith) (omega arith) more)
      where
        go : (t < W t) ⊎ (W t ≤ t) → (((v : ℕ) → low ≤ v → v < suc t → v < W v) → (u : ℕ) × LeastSolution low W u × (u ≤ c)) → (u : ℕ) × LeastSolution low W u × (u ≤ c)
        go (inr le) more = found t from (omega arith) none le
        go (inl lt) more = more (λ v low_v below. both v low_v below (cases_eq v t))
          where
            both : (v : ℕ) → low ≤ v → v < suc t → (v ≡ t) ⊎ (v ≡ t → ⊥) → v < W v
            both v low_v below (inl e) = subst (λ z. z < W z) (sym e) lt
            both v low_v below (inr ne) = none v low_v (omega (arith, ne))

-- below the least solution u < W u
pub below_solution : (low : ℕ) (W : ℕ → ℕ) (t u : ℕ) → Monotone W → low ≤ W low → LeastSolution low W t → low ≤ u → u < t → u < W u
below_solution low W t u mono first sol from lt = go (cases_lt u (W u))
  where
    go : (u < W u) ⊎ (W u ≤ u) → u < W u
    go (inl less) = less
    go (inr le) = let x = solution low W u mono first from le in absurd (omega (arith, sol.least x.0 x.1.from x.1.solves, x.2))
