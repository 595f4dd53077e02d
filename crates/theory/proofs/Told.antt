-- When the worst course of (i, a) releases: at least T apart, and often enough.
use Rattle.std.proofs.Common.{◌≡◌, ℕ, ◌+◌, ◌-◌, ◌*◌, ◌/◌, ◌%◌, ◌<◌, ◌≤◌, Bool, true, false, not, ◌&&◌, eqb, leb, ◌⊎◌, sym, refl, ◌∙◌, subst, inl, inr, mul-le-mul_right, suc-mul, arith}
use native.Mathlib.Nat.{mod-add-div', mul-mod_left}
use Rattle.std.proofs.lemmas.Bool.{cases_eq, cases_lt, cases_Bool, cond-true, cond-false, eq-eqb, ne_eqb, eqb-true, leb-true, le-leb, and_parts, and_from}
use Rattle.table.specs.Rules.{TaskSet, task_at}
use Rattle.policy.specs.Order.{Order}
use Rattle.theory.specs.Course.{lead, blocker, releases_at}

-- two multiples of T, counted from c
pub multiples_apart : (T c u v : ℕ) → c ≤ u → u < v → (u - c) % T ≡ 0 → (v - c) % T ≡ 0 → u + T ≤ v
multiples_apart T c u v low lt e f = go (cases_lt ((u - c) / T) ((v - c) / T))
  where
    x : (u - c) / T * T ≡ u - c
    x = omega (arith, mod-add-div' (u - c) T)

    y : (v - c) / T * T ≡ v - c
    y = omega (arith, mod-add-div' (v - c) T)

    go : ((u - c) / T < (v - c) / T) ⊎ ((v - c) / T ≤ (u - c) / T) → u + T ≤ v
    go (inl k) = omega (arith, x, y, suc-mul ((u - c) / T) T, mul-le-mul_right T k)
    go (inr k) = absurd (omega (arith, x, y, mul-le-mul_right T k))

-- every T from c on
abbrev pub every_from : ℕ → ℕ → ℕ → Bool
every_from T c u = leb c u && eqb ((u - c) % T) 0

-- every T from c up to `last`
abbrev pub every_between : ℕ → ℕ → ℕ → ℕ → Bool
every_between T c last u = (leb c u && leb u last) && eqb ((u - c) % T) 0

pub from_apart : (T c u v : ℕ) → every_from T c u ≡ true → every_from T c v ≡ true → u < v → u + T ≤ v
from_apart T c u v e f lt =
    let e₁ = and_parts (leb c u) (eqb ((u - c) % T) 0) e in
    let f₁ = and_parts (leb c v) (eqb ((v - c) % T) 0) f in
    multiples_apart T c u v (leb-true c u e₁.0) lt (eqb-true ((u - c) % T) 0 e₁.1) (eqb-true ((v - c) % T) 0 f₁.1)

pub between_apart : (T c last u v : ℕ) → every_between T c last u ≡ true → every_between T c last v ≡ true → u < v → u + T ≤ v
between_apart T c last u v e f lt =
    let e₁ = and_parts (leb c u && leb u last) (eqb ((u - c) % T) 0) e in
    let f₁ = and_parts (leb c v && leb v last) (eqb ((v - c) % T) 0) f in
    multiples_apart T c u v (leb-true c u (and_parts (leb c u) (leb u last) e₁.0).0) lt (eqb-true ((u - c) % T) 0 e₁.1) (eqb-true ((v - c) % T) 0 f₁.1)

turn : (T c k : ℕ) → ((c + k * T) - c) % T ≡ 0
turn T c k = let e : (c + k * T) - c ≡ k * T = omega arith in rw e (mul-mod_left k T)

pub from_at : (T c k : ℕ) → every_from T c (c + k * T) ≡ true
from_at T c k = and_from (leb c (c + k * T)) _ (le-leb c (c + k * T) (omega arith)) (eq-eqb _ 0 (turn T c k))

pub between_at : (T c last k : ℕ) → c + k * T ≤ last → every_between T c last (c + k * T) ≡ true
between_at T c last k le = and_from (leb c (c + k * T) && leb (c + k * T) last) _ (and_from (leb c (c + k * T)) _ (le-leb c (c + k * T) (omega arith)) (le-leb (c + k * T) last le)) (eq-eqb _ 0 (turn T c k))

module _ (s : TaskSet) (o : Order) (i a : ℕ) where
  -- j gives the blocking and releases once
  abbrev pub once : ℕ → Bool
  once j = not (eqb (lead s o i a) 0) && eqb j (blocker s o i a)

  pub told_own : (t : ℕ) → releases_at s o i a i t ≡ every_between (task_at s i).period (lead s o i a + a % (task_at s i).period) (lead s o i a + a) t
  told_own t = cond-true (eqb i i) _ _ (eq-eqb i i refl)

  pub told_once : (j t : ℕ) → (j ≡ i → ⊥) → once j ≡ true → releases_at s o i a j t ≡ eqb t 0
  told_once j t ne h = cond-false (eqb j i) _ _ (ne_eqb j i ne) ∙ cond-true (once j) _ _ h

  pub told_other : (j t : ℕ) → (j ≡ i → ⊥) → once j ≡ false → releases_at s o i a j t ≡ every_from (task_at s j).period (lead s o i a) t
  told_other j t ne h = cond-false (eqb j i) _ _ (ne_eqb j i ne) ∙ cond-false (once j) _ _ h

  -- releases of one task are at least T apart
  pub told_apart : (j u v : ℕ) → releases_at s o i a j u ≡ true → releases_at s o i a j v ≡ true → u < v → u + (task_at s j).period ≤ v
  told_apart j u v e f lt = go (cases_eq j i) (cases_Bool (once j))
    where
      go : (j ≡ i) ⊎ (j ≡ i → ⊥) → (once j ≡ true) ⊎ (once j ≡ false) → u + (task_at s j).period ≤ v
      go (inl same) w = between_apart (task_at s j).period (lead s o i a + a % (task_at s j).period) (lead s o i a + a) u v (own u e) (own v f) lt
        where
          own : (t : ℕ) → releases_at s o i a j t ≡ true → every_between (task_at s j).period (lead s o i a + a % (task_at s j).period) (lead s o i a + a) t ≡ true
          own t h = subst (λ k. releases_at s o i a k t ≡ true → every_between (task_at s k).period (lead s o i a + a % (task_at s k).period) (lead s o i a + a) t ≡ true) (sym same) (λ g. sym (told_own t) ∙ g) h
      go (inr ne) (inl w) =
          let x = eqb-true v 0 (sym (told_once j v ne w) ∙ f) in absurd (omega arith)
      go (inr ne) (inr w) = from_apart (task_at s j).period (lead s o i a) u v (sym (told_other j u ne w) ∙ e) (sym (told_other j v ne w) ∙ f) lt

  -- the last release of task i
  pub told_last : releases_at s o i a i (lead s o i a + a) ≡ true
  told_last =
      let e = mod-add-div' a (task_at s i).period in
      let at : (lead s o i a + a % (task_at s i).period) + a / (task_at s i).period * (task_at s i).period ≡ lead s o i a + a = omega arith in
      told_own (lead s o i a + a) ∙ subst (λ z. every_between (task_at s i).period (lead s o i a + a % (task_at s i).period) (lead s o i a + a) z ≡ true) at (between_at (task_at s i).period (lead s o i a + a % (task_at s i).period) (lead s o i a + a) (a / (task_at s i).period) (omega arith))
