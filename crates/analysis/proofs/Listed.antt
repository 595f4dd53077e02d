-- Sums and maxima over a list, as sums and maxima below its length.
use Rattle.std.proofs.Common.{◌≡◌, ℕ, zero, suc, ◌+◌, ◌≤◌, max, List, length, get_or, take, sym, refl, ap, ◌∙◌, arith}
use Rattle.std.specs.List.{fold, sum_by}
use Rattle.std.proofs.Math.Seq.{take-suc}
use Rattle.std.proofs.lemmas.List.{take_all}
use Rattle.std.proofs.lemmas.List.Sums.{fold_push, sum_by_push}
use Rattle.theory.specs.Sums.{sum_below, max_below}

module _ {X : Type 0} (f : X → ℕ) (d : X) (xs : List X) where
  front_sum : (n : ℕ) → n ≤ length xs → sum_by f (take n xs) ≡ sum_below n (λ j. f (get_or xs j d))
  unfolding sum_below
  front_sum zero h = refl
  front_sum (suc n) h = ap (sum_by f) (take-suc xs n d h) ∙ sum_by_push f (take n xs) (get_or xs n d) ∙ ap (λ s. s + f (get_or xs n d)) (front_sum n (omega arith))

  pub sum_by-below : sum_by f xs ≡ sum_below (length xs) (λ j. f (get_or xs j d))
  sum_by-below = ap (sum_by f) (sym (take_all (length xs) xs (omega arith))) ∙ front_sum (length xs) (omega arith)

  front_max : (n : ℕ) → n ≤ length xs → fold (λ a x. max a (f x)) 0 (take n xs) ≡ max_below n (λ j. f (get_or xs j d))
  unfolding max_below
  front_max zero h = refl
  front_max (suc n) h = ap (fold (λ a x. max a (f x)) 0) (take-suc xs n d h) ∙ fold_push (λ a x. max a (f x)) 0 (take n xs) (get_or xs n d) ∙ ap (λ s. max s (f (get_or xs n d))) (front_max n (omega arith))

  pub fold_max-below : fold (λ a x. max a (f x)) 0 xs ≡ max_below (length xs) (λ j. f (get_or xs j d))
  fold_max-below = ap (fold (λ a x. max a (f x)) 0) (sym (take_all (length xs) xs (omega arith))) ∙ front_max (length xs) (omega arith)
