-- What the calls about worst courses answer. From an offset of 60,000 on no course is told.
use Rattle.std.specs.Prelude.{◌≡◌, ℕ, ◌+◌, ◌-◌, ◌%◌, ◌<◌, ◌≤◌, Bool, false, cond, ◌&&◌, ◌⊎◌, Some, None, Ok, Err, Option, Result, ◌==◌, nat_le, nat_lt, not, pos, negsuc}
use Rattle.table.specs.Rules.{TaskSet, task_at, task_count}
use Rattle.table.specs.declared.refusal.Refusal.{Refusal}
use Rattle.table.specs.declared.refusal.Refusal.TheVariants.{NoTaskToJudge}
use Rattle.policy.specs.Order.{Order, job}
use Rattle.theory.specs.Course.{releases_at, lead, blocker}
use Rattle.courses.specs.declared.lead.Lead.{Lead}

abbrev pub offset_limit : ℕ
offset_limit = 60000

-- whether task j releases at tick t in the worst course of task i at offset a; a missing task is refused, i first
abbrev pub Told : TaskSet → Order → ℕ → ℕ → ℕ → ℕ → Result Bool Refusal → Type 0
Told s o i a j t (Ok yes-told) = (i < task_count s) × (j < task_count s) × (yes-told ≡ cond (nat_le offset_limit a) false (releases_at s o i a j t))
Told s o i a j t (Err e) = ((e ≡ NoTaskToJudge i) × (task_count s ≤ i)) ⊎ ((e ≡ NoTaskToJudge j) × (i < task_count s) × (task_count s ≤ j))

-- what task j blocks: C - 1 where it is another task whose job at -1 is behind
abbrev pub block_at : TaskSet → Order → ℕ → ℕ → ℕ → Option ℕ
block_at s o i a j = cond (nat_lt j (task_count s) && (not (j == i) && o.ahead (job i (pos a)) (job j (negsuc 0)))) (Some ((task_at s j).cost - 1)) None

-- the blocker, where the course has a lead
abbrev pub blocker_of : TaskSet → Order → ℕ → ℕ → Option ℕ
blocker_of s o i a = cond (lead s o i a == 0) None (Some (blocker s o i a))

-- the lead and the blocker of the worst course of task i at offset a; a missing task is refused
abbrev pub Led : TaskSet → Order → ℕ → ℕ → Result Lead Refusal → Type 0
Led s o i a (Ok l) = (i < task_count s) × (l.ticks ≡ cond (nat_le offset_limit a) 0 (lead s o i a)) × (l.blocker ≡ cond (nat_le offset_limit a) None (blocker_of s o i a))
Led s o i a (Err e) = (e ≡ NoTaskToJudge i) × (task_count s ≤ i)

-- the parts of a course: task i itself, another task, and any task under a given lead
abbrev pub own_releases : ℕ → ℕ → ℕ → ℕ → Bool
own_releases ticks a period t = (nat_le (ticks + a % period) t && nat_le t (ticks + a)) && (t - (ticks + a % period)) % period == 0

abbrev pub other_releases : ℕ → ℕ → ℕ → Bool
other_releases ticks period t = nat_le ticks t && (t - ticks) % period == 0

abbrev pub unless_blocker : Option ℕ → ℕ → ℕ → Bool → Bool
unless_blocker None j t rest = rest
unless_blocker (Some b) j t rest = cond (b == j) (t == 0) rest

abbrev pub releases_by : Lead → ℕ → ℕ → ℕ → ℕ → ℕ → Bool
releases_by l i a j period t = cond (j == i) (own_releases l.ticks a period t) (unless_blocker l.blocker j t (other_releases l.ticks period t))
