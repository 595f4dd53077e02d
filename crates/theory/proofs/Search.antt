-- Tests and searches over a list: what they tell of its elements.
use Rattle.std.proofs.Common.{◌≡◌, ℕ, Bool, true, false, cond, ◌⊎◌, List, [], ◌∷◌, map, Some, None, sym, refl, ap, ◌∙◌, subst, inl, inr, arith}
use Rattle.std.proofs.lemmas.Bool.{cases_Bool, both_ways, cond-true, cond-false, and_parts, and_from, or_parts, or_cases}
use Rattle.theory.specs.Lists.{In, every, any, those, first_such}

pub none_some : {X : Type 0} {x : X} → (None ≡ Some x) → ⊥
none_some e = let z : ◌≡◌ {A = ℕ} 0 1 = cc in omega arith

pub some_same : {X : Type 0} {x y : X} → (Some x ≡ Some y) → x ≡ y
some_same e = cc

module _ {X : Type 0} (p : X → Bool) where
  pub every_of : (xs : List X) → every p xs ≡ true → (x : X) → In x xs → p x ≡ true
  unfolding every
  every_of [] h x m = absurd m
  every_of (y ∷ ys) h x (inl e) = ap p e ∙ (and_parts (p y) (every p ys) h).0
  every_of (y ∷ ys) h x (inr m) = every_of ys (and_parts (p y) (every p ys) h).1 x m

  pub every_from : (xs : List X) → ((x : X) → In x xs → p x ≡ true) → every p xs ≡ true
  unfolding every
  every_from [] h = refl
  every_from (y ∷ ys) h = and_from (p y) (every p ys) (h y (inl refl)) (every_from ys (λ x m. h x (inr m)))

  pub any_none : (xs : List X) → any p xs ≡ false → (x : X) → In x xs → p x ≡ false
  unfolding any
  any_none [] h x m = absurd m
  any_none (y ∷ ys) h x (inl e) = ap p e ∙ (or_parts (p y) (any p ys) h).0
  any_none (y ∷ ys) h x (inr m) = any_none ys (or_parts (p y) (any p ys) h).1 x m

  pub any_some : (xs : List X) → any p xs ≡ true → (x : X) × In x xs × (p x ≡ true)
  unfolding any
  any_some [] h = absurd (both_ways false refl h)
  any_some (y ∷ ys) h = go (or_cases (p y) (any p ys) h) (any_some ys)
    where
      go : (p y ≡ true) ⊎ (any p ys ≡ true) → (any p ys ≡ true → (x : X) × In x ys × (p x ≡ true)) → (x : X) × In x (y ∷ ys) × (p x ≡ true)
      go (inl e) rest = (y, inl refl, e)
      go (inr e) rest = let r = rest e in (r.0, inr r.1, r.2)

  pub those_of : (xs : List X) (x : X) → In x (those p xs) → In x xs × (p x ≡ true)
  unfolding those
  those_of [] x m = absurd m
  those_of (y ∷ ys) x m = go (cases_Bool (p y)) (those_of ys x)
    where
      go : (p y ≡ true) ⊎ (p y ≡ false) → (In x (those p ys) → In x ys × (p x ≡ true)) → In x (y ∷ ys) × (p x ≡ true)
      go (inl e) rest = here (subst (λ zs. In x zs) (cond-true (p y) (y ∷ those p ys) (those p ys) e) m)
        where
          here : (x ≡ y) ⊎ In x (those p ys) → In x (y ∷ ys) × (p x ≡ true)
          here (inl q) = (inl q, ap p q ∙ e)
          here (inr q) = (inr (rest q).0, (rest q).1)
      go (inr e) rest = let q = rest (subst (λ zs. In x zs) (cond-false (p y) (y ∷ those p ys) (those p ys) e) m) in (inr q.0, q.1)

  pub in_those : (xs : List X) (x : X) → In x xs → p x ≡ true → In x (those p xs)
  unfolding those
  in_those [] x m h = absurd m
  in_those (y ∷ ys) x (inl e) h = subst (λ zs. In x zs) (sym (cond-true (p y) (y ∷ those p ys) (those p ys) (ap p (sym e) ∙ h))) (inl e)
  in_those (y ∷ ys) x (inr m) h = go (cases_Bool (p y)) (in_those ys x m h)
    where
      go : (p y ≡ true) ⊎ (p y ≡ false) → In x (those p ys) → In x (cond (p y) (y ∷ those p ys) (those p ys))
      go (inl e) r = subst (λ zs. In x zs) (sym (cond-true (p y) (y ∷ those p ys) (those p ys) e)) (inr r)
      go (inr e) r = subst (λ zs. In x zs) (sym (cond-false (p y) (y ∷ those p ys) (those p ys) e)) r

  pub first_some : (xs : List X) (x : X) → first_such p xs ≡ Some x → In x xs × (p x ≡ true)
  unfolding first_such
  first_some [] x h = absurd (none_some h)
  first_some (y ∷ ys) x h = go (cases_Bool (p y)) (first_some ys x)
    where
      go : (p y ≡ true) ⊎ (p y ≡ false) → (first_such p ys ≡ Some x → In x ys × (p x ≡ true)) → In x (y ∷ ys) × (p x ≡ true)
      go (inl e) rest = let q : y ≡ x = some_same (sym (cond-true (p y) (Some y) (first_such p ys) e) ∙ h) in (inl (sym q), ap p (sym q) ∙ e)
      go (inr e) rest = let q = rest (sym (cond-false (p y) (Some y) (first_such p ys) e) ∙ h) in (inr q.0, q.1)

  pub first_none : (xs : List X) → first_such p xs ≡ None → (x : X) → In x xs → p x ≡ false
  unfolding first_such
  first_none [] h x m = absurd m
  first_none (y ∷ ys) h x m = go (cases_Bool (p y)) m (λ e q. first_none ys e x q)
    where
      go : (p y ≡ true) ⊎ (p y ≡ false) → (x ≡ y) ⊎ In x ys → (first_such p ys ≡ None → In x ys → p x ≡ false) → p x ≡ false
      go (inl e) q rest = absurd (none_some (sym h ∙ cond-true (p y) (Some y) (first_such p ys) e))
      go (inr e) (inl q) rest = ap p q ∙ e
      go (inr e) (inr q) rest = rest (sym (cond-false (p y) (Some y) (first_such p ys) e) ∙ h) q

pub in_map : {X Y : Type 0} (f : X → Y) (xs : List X) (x : X) → In x xs → In (f x) (map f xs)
in_map f [] x m = absurd m
in_map f (y ∷ ys) x (inl e) = inl (ap f e)
in_map f (y ∷ ys) x (inr m) = inr (in_map f ys x m)

-- an element of a mapped list comes from one of the list
pub from_map : {X Y : Type 0} (f : X → Y) (xs : List X) (y : Y) → In y (map f xs) → (x : X) × In x xs × (y ≡ f x)
from_map f [] y m = absurd m
from_map f (x ∷ xs) y (inl e) = (x, inl refl, e)
from_map f (x ∷ xs) y (inr m) = let r = from_map f xs y m in (r.0, inr r.1, r.2)
