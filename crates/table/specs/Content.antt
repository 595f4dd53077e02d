-- What the stored names, tasks and tables say.
use Rattle.std.specs.Prelude.{◌≡◌, ℕ, true, false, List, take, Some, None, Option}
use Rattle.table.specs.Sporadic.{Sporadic, name_in_range}
use Rattle.table.specs.declared.name.Name.{Name}
use Rattle.table.specs.declared.task.Task.{Task}

-- the letters of a name
abbrev pub letters : Name → List ℕ
letters n = take n.len n.bytes

abbrev pub sporadic : Task → Sporadic
sporadic t = record { cost = t.cost; period = t.period; deadline = t.deadline; rank = t.rank; name = letters t.name }

-- these letters make a name, or break the rule of names
abbrev pub Named : List ℕ → Option Name → Type 0
Named bs None = name_in_range bs ≡ false
Named bs (Some n) = (name_in_range bs ≡ true) × (letters n ≡ bs)
