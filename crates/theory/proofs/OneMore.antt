-- Sums and maxima below a number, one more at a time, as a loop makes them.
use Rattle.std.proofs.Common.{◌≡◌, ℕ, ◌+◌, max, refl, add-one}
use Rattle.theory.specs.Sums.{sum_below, max_below}

pub sum_more : (f : ℕ → ℕ) (n : ℕ) → sum_below (n + 1) f ≡ sum_below n f + f n
unfolding sum_below
sum_more f n = rw add-one

pub sum_none : (f : ℕ → ℕ) → sum_below 0 f ≡ 0
unfolding sum_below
sum_none f = refl

pub max_more : (f : ℕ → ℕ) (n : ℕ) → max_below (n + 1) f ≡ max (max_below n f) (f n)
unfolding max_below
max_more f n = rw add-one

pub max_none : (f : ℕ → ℕ) → max_below 0 f ≡ 0
unfolding max_below
max_none f = refl
