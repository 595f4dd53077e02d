-- What a checked table says, and when a table can be made of given parts.
use Rattle.std.specs.Prelude.{◌≡◌, ℕ, ◌<◌, ◌≤◌, true, false, [], ◌∷◌, map, take, Some, None, codes, Option}
use Rattle.table.specs.Sporadic.{Sporadic}
use Rattle.table.specs.Rules.{TaskSet, follows_rules, task_at, task_count}
use Rattle.table.specs.Content.{sporadic}
use Rattle.table.specs.declared.checked.Table.{Table}
use Rattle.table.specs.declared.task.Task.{Task}
use Rattle.table.specs.declared.kinds.Mode.TheVariants.{Preemptive}
use Rattle.table.specs.declared.kinds.PolicyCode.TheVariants.{Fixed}

abbrev pub content : Table → TaskSet
content t = record { policy = t.policy; mode = t.mode; band = t.band; tasks = map sporadic (take t.count t.tasks) }

-- these parts make a table, or break a rule
abbrev pub Built : TaskSet → Option Table → Type 0
Built s None = follows_rules s.policy s.band s.tasks ≡ false
Built s (Some t) = (follows_rules s.policy s.band s.tasks ≡ true) × (content t ≡ s)

-- a fresh place: one task named A with C, T, D and rank 1, under Fixed, displacing
abbrev pub fresh_task : Sporadic
fresh_task = record { cost = 1; period = 1; deadline = 1; rank = 1; name = codes "A" }

abbrev pub fresh_content : TaskSet
fresh_content = record { policy = Fixed; mode = Preemptive; band = 0; tasks = fresh_task ∷ [] }

-- the task of this number, or that there is none
abbrev pub Found : TaskSet → ℕ → Option Task → Type 0
Found s i None = task_count s ≤ i
Found s i (Some t) = (i < task_count s) × (sporadic t ≡ task_at s i)
