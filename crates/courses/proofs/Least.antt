-- The least number below n that passes a test.
use Rattle.std.proofs.Common.{◌≡◌, ℕ, zero, suc, ◌<◌, Bool, true, false, cond, ltb, refl, ap, ◌∙◌, arith}
use Rattle.std.proofs.lemmas.Bool.Decides.{nat_tests}
use Rattle.theory.specs.Course.{least_below}

-- where none passes it is n
pub least_none : (n : ℕ) (p : ℕ → Bool) → ((k : ℕ) → k < n → p k ≡ false) → least_below n p ≡ n
unfolding least_below
least_none zero p h = refl
least_none (suc n) p h =
    let before = least_none n p (λ k l. h k (omega arith)) in
    let none : ltb (least_below n p) n ≡ false = grind (arith, nat_tests, before) in
    ap (λ b. cond b (least_below n p) (cond (p n) n (suc n))) none ∙ ap (λ b. cond b n (suc n)) (h n (omega arith))

-- where j passes and nothing before it does it is j
pub least_found : (n : ℕ) (p : ℕ → Bool) (j : ℕ) → j < n → p j ≡ true → ((k : ℕ) → k < j → p k ≡ false) → least_below n p ≡ j
unfolding least_below
least_found zero p j lt here h = absurd (omega arith)
least_found (suc n) p j lt here h = go (ltb j n) refl (least_found n p j)
  where
    go : (b : Bool) → ltb j n ≡ b → (j < n → p j ≡ true → ((k : ℕ) → k < j → p k ≡ false) → least_below n p ≡ j) → cond (ltb (least_below n p) n) (least_below n p) (cond (p n) n (suc n)) ≡ j
    go true e ih =
        let less : j < n = grind (arith, nat_tests) in
        let found = ih less here h in
        let inside : ltb (least_below n p) n ≡ true = grind (arith, nat_tests, found) in
        ap (λ b. cond b (least_below n p) (cond (p n) n (suc n))) inside ∙ found
    go false e ih =
        let same : n ≡ j = grind (arith, nat_tests) in
        let before = least_none n p (λ k l. h k (omega arith)) in
        let none : ltb (least_below n p) n ≡ false = grind (arith, nat_tests, before) in
        ap (λ b. cond b (least_below n p) (cond (p n) n (suc n))) none ∙ ap (λ b. cond b n (suc n)) (ap p same ∙ here) ∙ same
