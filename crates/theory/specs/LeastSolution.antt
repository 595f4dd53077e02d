-- The least solution of t = W t among the numbers from `low` on.
use Rattle.std.specs.Prelude.{◌≡◌, ℕ, ◌≤◌}

pub record LeastSolution (low : ℕ) (W : ℕ → ℕ) (t : ℕ) : Type 0 where
  pub from : low ≤ t
  pub solves : t ≡ W t
  pub least : (v : ℕ) → low ≤ v → v ≡ W v → t ≤ v
