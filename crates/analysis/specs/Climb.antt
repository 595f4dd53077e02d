-- Climbing from `start` to the least number that covers its own work, if there is one up to `cap`.
use Rattle.std.specs.Prelude.{ℕ, ◌<◌, ◌≤◌, Some, None, Option}

abbrev pub Climbed : (ℕ → ℕ) → ℕ → ℕ → Option ℕ → Type 0
Climbed W start cap None = (v : ℕ) → start ≤ v → W v ≤ v → cap < v
Climbed W start cap (Some t) = (start ≤ t) × (t ≤ cap) × (W t ≤ t) × ((v : ℕ) → start ≤ v → W v ≤ v → t ≤ v)
