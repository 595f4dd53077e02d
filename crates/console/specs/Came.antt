-- What reading leaves in a lent buffer: so many bytes at its start, and all else as it was.
use Rattle.std.specs.Prelude.{◌≡◌, ℕ, ◌≤◌, List, length, drop, Result, MatchResult}

-- the most that is read
abbrev pub input_bytes : ℕ
input_bytes = 441

abbrev pub Came : {E : Type 0} → List ℕ → List ℕ → Result ℕ E → Type 0
Came before after r = MatchResult r (λ n. (n ≤ input_bytes) × (n ≤ length before) × (drop n after ≡ drop n before)) (λ _. after ≡ before)
