-- Bytes written into a lent output from a place on: all of them where they fit, and otherwise none.
use Rattle.std.specs.Prelude.{◌≡◌, ℕ, ◌+◌, ◌<◌, ◌≤◌, List, ◌++◌, length, take, drop}

-- the output with these bytes in place of those that stood there
abbrev pub pasted : List ℕ → ℕ → List ℕ → List ℕ
pasted out at bytes = take at out ++ (bytes ++ drop (at + length bytes) out)

-- what a writer leaves and answers: it answers how many bytes it wrote
pub record Put (before : List ℕ) (at : ℕ) (bytes : List ℕ) (after : List ℕ) (answer : ℕ) : Type 0 where
  pub fits : at + length bytes ≤ length before → (after ≡ pasted before at bytes) × (answer ≡ length bytes)
  pub full : length before < at + length bytes → (after ≡ before) × (answer ≡ 0)

-- what a line writer leaves and answers where its text fits: the text stands at the place, and the answer is the place behind it
pub record Appended (before : List ℕ) (at : ℕ) (text : List ℕ) (after : List ℕ) (next : ℕ) : Type 0 where
  pub done : at + length text ≤ length before → (after ≡ pasted before at text) × (next ≡ at + length text)
