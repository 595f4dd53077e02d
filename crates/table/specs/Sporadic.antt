-- A sporadic task as the rules speak of it, and the range of each of its fields.
use Rattle.std.specs.Prelude.{ℕ, ◌*◌, Bool, ◌&&◌, ◌||◌, List, length, nat_le}
use Rattle.std.specs.List.{list_all}

-- worst-case execution time C, least distance T of releases, relative deadline D, rank, and the letters of the name
pub record Sporadic : Type 0 where
  pub cost : ℕ
  pub period : ℕ
  pub deadline : ℕ
  pub rank : ℕ
  pub name : List ℕ

abbrev pub within : ℕ → ℕ → ℕ → Bool
within low high x = nat_le low x && nat_le x high

-- a test of each element
abbrev pub every : {X : Type 0} → (X → Bool) → List X → Bool
every = list_all

-- A-Z and 0-9
abbrev pub name_byte : ℕ → Bool
name_byte b = within 65 90 b || within 48 57 b

-- 1 to 8 of these
abbrev pub name_in_range : List ℕ → Bool
name_in_range bs = within 1 8 (length bs) && every name_byte bs

abbrev pub cost_in_range : ℕ → Bool
cost_in_range = within 1 4096

abbrev pub period_in_range : ℕ → Bool
period_in_range = within 1 65535

-- at most 8 times T
abbrev pub deadline_in_range : ℕ → ℕ → Bool
deadline_in_range period d = within 1 65535 d && nat_le d (8 * period)

abbrev pub rank_in_range : ℕ → ℕ → Bool
rank_in_range n = within 1 n

-- every field of a task of a table of n tasks
abbrev pub task_in_range : ℕ → Sporadic → Bool
task_in_range n t = cost_in_range t.cost && (period_in_range t.period && (deadline_in_range t.period t.deadline && (rank_in_range n t.rank && name_in_range t.name)))
