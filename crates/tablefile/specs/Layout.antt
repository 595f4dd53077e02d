-- The bytes of the file that says what a task set says, record by record: each mark, then the fields in their order.
use Rattle.std.specs.Prelude.{◌≡◌, ℕ, ◌/◌, ◌%◌, true, List, [], ◌∷◌, ◌++◌, length}
use Rattle.std.specs.List.{flat_map}
use Rattle.table.specs.Codes.{mode_code, policy_code}
use Rattle.table.specs.Sporadic.{Sporadic}
use Rattle.table.specs.Rules.{TaskSet, follows_rules}

-- the high byte first
abbrev pub two_bytes : ℕ → List ℕ
two_bytes v = v / 256 ∷ v % 256 ∷ []

abbrev pub header_bytes : TaskSet → List ℕ
header_bytes s = 0x48 ∷ 0x54 ∷ policy_code s.policy ∷ mode_code s.mode ∷ length s.tasks ∷ s.band ∷ []

abbrev pub task_bytes : Sporadic → List ℕ
task_bytes t = 0x54 ∷ 0x4B ∷ (two_bytes t.cost ++ (two_bytes t.period ++ (two_bytes t.deadline ++ (t.rank ∷ length t.name ∷ t.name))))

abbrev pub end_bytes : List ℕ
end_bytes = 0x45 ∷ 0x4E ∷ []

unfoldable pub layout : TaskSet → List ℕ
layout s = header_bytes s ++ (flat_map task_bytes s.tasks ++ end_bytes)

-- the task set keeps the rules of tables, and these are its bytes
abbrev pub LaysOut : List ℕ → TaskSet → Type 0
LaysOut bytes s = (follows_rules s.policy s.band s.tasks ≡ true) × (bytes ≡ layout s)
