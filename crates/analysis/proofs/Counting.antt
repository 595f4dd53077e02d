-- Counts of releases in closed form.
use Rattle.std.proofs.Common.{◌≡◌, ℕ, zero, suc, ◌+◌, ◌-◌, ◌*◌, ◌/◌, ◌<◌, ◌≤◌, min, Bool, true, false, cond, ◌&&◌, ltb, leb, sym, refl, ap, ◌∙◌, ap₂, suc-mul, div-lt_iff_lt-mul, mul-le-mul, le-div_iff_mul-le, arith}
use Rattle.std.proofs.lemmas.Bool.Decides.{nat_tests}
use Rattle.theory.specs.BusyPeriod.{ceil_div}
use Rattle.theory.specs.Sums.{count_below}

pub count_same : (n : ℕ) (p q : ℕ → Bool) → ((k : ℕ) → k < n → p k ≡ q k) → count_below n p ≡ count_below n q
unfolding count_below
count_same zero p q h = refl
count_same (suc n) p q h = ap₂ (λ x b. x + cond b 1 0) (count_same n p q (λ k l. h k (omega arith))) (h n (omega arith))

-- the numbers below m, counted up to n
pub count_first : (n m : ℕ) → count_below n (λ k. ltb k m) ≡ min n m
unfolding count_below
count_first zero m = omega arith
count_first (suc n) m = grind (arith, nat_tests, count_first n m)

-- k·T < t exactly for the k below t / T rounded up
pub below_ceil : (k t d : ℕ) → 1 ≤ d → ltb (k * d) t ≡ ltb k (ceil_div t d)
below_ceil k t d pos = go (ltb (k * d) t) refl
  where
    to : k * d < t → k < ceil_div t d
    to h = (le-div_iff_mul-le pos).1 (omega (arith, suc-mul k d))

    from : k < ceil_div t d → k * d < t
    from h = omega (arith, (le-div_iff_mul-le pos).0 h, suc-mul k d)

    go : (b : Bool) → ltb (k * d) t ≡ b → ltb (k * d) t ≡ ltb k (ceil_div t d)
    go true e = let h : k * d < t = grind (arith, nat_tests) in let l = to h in grind (arith, nat_tests)
    go false e = e ∙ sym (none (ltb k (ceil_div t d)) refl)
      where
        none : (c : Bool) → ltb k (ceil_div t d) ≡ c → ltb k (ceil_div t d) ≡ false
        none true f = let l : k < ceil_div t d = grind (arith, nat_tests) in let h = from l in let z : ◌≡◌ {A = ℕ} 0 1 = grind (arith, nat_tests) in absurd (omega arith)
        none false f = f

pub ceil_small : (t d : ℕ) → 1 ≤ d → ceil_div t d ≤ t
ceil_small t d pos =
    let more = mul-le-mul {n₁ = t} {m₁ = 1} {n₂ = t} {m₂ = d} (omega arith) pos in
    let less : ceil_div t d < suc t = (div-lt_iff_lt-mul pos).1 (omega (arith, suc-mul t d, more)) in
    omega arith

-- k·T + base ≤ x exactly for the k below (x - base) / T + 1, if base ≤ x, and for none otherwise
pub below_limit : (k d base x : ℕ) → 1 ≤ d → leb (k * d + base) x ≡ ltb k (cond (ltb x base) 0 ((x - base) / d + 1))
below_limit k d base x pos = go (ltb x base) refl
  where
    inside : base ≤ x → leb (k * d + base) x ≡ ltb k ((x - base) / d + 1)
    inside h = two (leb (k * d + base) x) refl
      where
        to : k * d + base ≤ x → k ≤ (x - base) / d
        to l = (le-div_iff_mul-le pos).1 (omega arith)

        from : k ≤ (x - base) / d → k * d + base ≤ x
        from l = omega (arith, (le-div_iff_mul-le pos).0 l)

        two : (b : Bool) → leb (k * d + base) x ≡ b → leb (k * d + base) x ≡ ltb k ((x - base) / d + 1)
        two true e = let l : k * d + base ≤ x = grind (arith, nat_tests) in let m = to l in grind (arith, nat_tests)
        two false e = e ∙ sym (three (ltb k ((x - base) / d + 1)) refl)
          where
            three : (c : Bool) → ltb k ((x - base) / d + 1) ≡ c → ltb k ((x - base) / d + 1) ≡ false
            three true f = let l : k ≤ (x - base) / d = grind (arith, nat_tests) in let m = from l in let z : ◌≡◌ {A = ℕ} 0 1 = grind (arith, nat_tests) in absurd (omega arith)
            three false f = f

    go : (b : Bool) → ltb x base ≡ b → leb (k * d + base) x ≡ ltb k (cond (ltb x base) 0 ((x - base) / d + 1))
    go true e =
        let less : x < base = grind (arith, nat_tests) in
        let no_release : leb (k * d + base) x ≡ false = grind (arith, nat_tests) in
        no_release ∙ sym (ap (λ b. ltb k (cond b 0 ((x - base) / d + 1))) e ∙ grind (arith, nat_tests))
    go false e =
        let more : base ≤ x = grind (arith, nat_tests) in
        inside more ∙ sym (ap (λ b. ltb k (cond b 0 ((x - base) / d + 1))) e)

-- both at once
pub count_both : (t d base x : ℕ) → 1 ≤ d → count_below t (λ k. ltb (k * d) t && leb (k * d + base) x) ≡ min (ceil_div t d) (cond (ltb x base) 0 ((x - base) / d + 1))
count_both t d base x pos =
    let m = ceil_div t d in
    let l = cond (ltb x base) 0 ((x - base) / d + 1) in
    let small = ceil_small t d pos in
    count_same t (λ k. ltb (k * d) t && leb (k * d + base) x) (λ k. ltb k (min m l)) (λ k h. ap₂ ◌&&◌ (below_ceil k t d pos) (below_limit k d base x pos) ∙ join k m l) ∙ count_first t (min m l) ∙ omega (arith, small)
  where
    join : (k m l : ℕ) → (ltb k m && ltb k l) ≡ ltb k (min m l)
    join k m l = grind (arith, nat_tests)
