-- The best response so far, offset by offset.
use Rattle.std.proofs.Common.{◌≡◌, ℕ, ◌+◌, ◌<◌, ◌≤◌, Bool, true, false, cond, ltb, ◌⊎◌, sym, refl, ap, ◌∙◌, subst, inl, inr, arith}
use Rattle.std.proofs.lemmas.Bool.Decides.{nat_tests}
use Rattle.analysis.specs.Best.{Best}

-- over the offsets below a; a response of 0 stands for none yet
pub record SoFar (R : ℕ → ℕ → Type 0) (a response offset : ℕ) : Type 0 where
  pub longest : (b : ℕ) → b < a → (r : ℕ) × R b r × (r ≤ response)
  pub least : (b : ℕ) → b < offset → (r : ℕ) × R b r × (r < response)
  pub given : 1 ≤ a → (offset < a) × R offset response
  pub none : a ≡ 0 → response ≡ 0

module _ (R : ℕ → ℕ → Type 0) where
  pub so_far_none : SoFar R 0 0 0
  so_far_none = record { longest = λ b h. absurd (omega arith); least = λ b h. absurd (omega arith); given = λ h. absurd (omega arith); none = λ e. refl }

  below_or_here : (a b : ℕ) → b < a + 1 → (b < a) ⊎ (b ≡ a)
  below_or_here a b h = go (ltb b a) refl
    where
      go : (t : Bool) → ltb b a ≡ t → (b < a) ⊎ (b ≡ a)
      go true e = inl (grind (arith, nat_tests))
      go false e = inr (grind (arith, nat_tests))

  -- one more offset, with response x: the longer is kept, and on a tie the earlier offset
  pub so_far_more : (a r off x r' off' : ℕ) → SoFar R a r off → R a x → 1 ≤ x → r' ≡ cond (ltb r x) x r → off' ≡ cond (ltb r x) a off → SoFar R (a + 1) r' off'
  so_far_more a r off x r' off' so here low er eo = go (ltb r x) refl
    where
      go : (t : Bool) → ltb r x ≡ t → SoFar R (a + 1) r' off'
      go true e =
          let er' : r' ≡ x = er ∙ ap (λ t. cond t x r) e in
          let eo' : off' ≡ a = eo ∙ ap (λ t. cond t a off) e in
          let less : r < x = grind (arith, nat_tests) in
          record {
            longest = λ b h. old b (below_or_here a b h) er' less;
            least = λ b h. let k : b < a = omega (arith, eo') in let w = so.longest b k in (w.0, w.1, omega (arith, w.2, er'));
            given = λ h. (omega (arith, eo'), subst (λ y. R off' y) (sym er') (subst (λ y. R y x) (sym eo') here));
            none = λ z. absurd (omega (arith, z));
          }
        where
          old : (b : ℕ) → (b < a) ⊎ (b ≡ a) → r' ≡ x → r < x → (y : ℕ) × R b y × (y ≤ r')
          old b (inl k) er' less = let w = so.longest b k in (w.0, w.1, omega (arith, w.2, er'))
          old b (inr k) er' less = (x, subst (λ y. R y x) (sym k) here, omega (arith, er'))
      go false e =
          let er' : r' ≡ r = er ∙ ap (λ t. cond t x r) e in
          let eo' : off' ≡ off = eo ∙ ap (λ t. cond t a off) e in
          let more : x ≤ r = grind (arith, nat_tests) in
          let some : 1 ≤ a = at_least (ltb 0 a) refl more in
          let g = so.given some in
          record {
            longest = λ b h. old b (below_or_here a b h) er' more;
            least = λ b h. let w = so.least b (omega (arith, eo')) in (w.0, w.1, omega (arith, w.2, er'));
            given = λ h. (omega (arith, g.0, eo'), subst (λ y. R off' y) (sym er') (subst (λ y. R y r) (sym eo') g.1));
            none = λ z. absurd (omega (arith, z));
          }
        where
          old : (b : ℕ) → (b < a) ⊎ (b ≡ a) → r' ≡ r → x ≤ r → (y : ℕ) × R b y × (y ≤ r')
          old b (inl k) er' more = let w = so.longest b k in (w.0, w.1, omega (arith, w.2, er'))
          old b (inr k) er' more = (x, subst (λ y. R y x) (sym k) here, omega (arith, er'))

          at_least : (t : Bool) → ltb 0 a ≡ t → x ≤ r → 1 ≤ a
          at_least true f more = grind (arith, nat_tests)
          at_least false f more =
              let zero_a : a ≡ 0 = grind (arith, nat_tests) in
              absurd (omega (arith, so.none zero_a))

  -- at the end
  pub so_far_all : (L r off : ℕ) → 1 ≤ L → SoFar R L r off → Best R L r off
  so_far_all L r off some so = record { inside = (so.given some).0; given = (so.given some).1; longest = so.longest; least = so.least }
