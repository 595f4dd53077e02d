-- The greatest response over a range of offsets, and the least offset that gives it. `R a r`: the response at offset a is r.
use Rattle.std.specs.Prelude.{ℕ, ◌<◌, ◌≤◌}

pub record Best (R : ℕ → ℕ → Type 0) (L response offset : ℕ) : Type 0 where
  pub inside : offset < L
  pub given : R offset response
  pub longest : (b : ℕ) → b < L → (r : ℕ) × R b r × (r ≤ response)
  pub least : (b : ℕ) → b < offset → (r : ℕ) × R b r × (r < response)
