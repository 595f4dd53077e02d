-- What a table has to keep: the number of tasks, their ranges, different ranks, and the band of the policy.
use Rattle.std.specs.Prelude.{◌≡◌, ℕ, ◌-◌, Bool, true, not, ◌&&◌, List, [], ◌∷◌, length, ◌==◌, slice_index_or}
use Rattle.table.specs.Sporadic.{Sporadic, within, every, task_in_range}
use Rattle.table.specs.declared.kinds.Mode.{Mode}
use Rattle.table.specs.declared.kinds.PolicyCode.{PolicyCode}
use Rattle.table.specs.declared.kinds.PolicyCode.TheVariants.{Fixed, Deadline, Arrival, Bands}

-- all that a table says
pub record TaskSet : Type 0 where
  pub policy : PolicyCode
  pub mode : Mode
  pub band : ℕ
  pub tasks : List Sporadic

-- Bands has from 1 to n - 1 tasks in its first band; any other policy has band 0
abbrev pub band_in_range : PolicyCode → ℕ → ℕ → Bool
band_in_range Fixed n band = band == 0
band_in_range Deadline n band = band == 0
band_in_range Arrival n band = band == 0
band_in_range Bands n band = within 1 (n - 1) band

-- no earlier task has this rank
abbrev pub rank_free : ℕ → List Sporadic → Bool
rank_free rank = every (λ t. not (t.rank == rank))

-- all ranks are different: each is free among the tasks behind it
abbrev pub ranks_differ : List Sporadic → Bool
ranks_differ [] = true
ranks_differ (t ∷ ts) = rank_free t.rank ts && ranks_differ ts

unfoldable pub follows_rules : PolicyCode → ℕ → List Sporadic → Bool
follows_rules policy band ts = within 1 24 (length ts) && (band_in_range policy (length ts) band && (every (task_in_range (length ts)) ts && ranks_differ ts))

-- a task set that a checked table can hold
abbrev pub Checked : TaskSet → Type 0
Checked s = follows_rules s.policy s.band s.tasks ≡ true

abbrev pub task_count : TaskSet → ℕ
task_count s = length s.tasks

-- the task of a number; past the last one, a task that no statement speaks of
abbrev pub task_at : TaskSet → ℕ → Sporadic
task_at s i = slice_index_or s.tasks i (record { cost = 1; period = 1; deadline = 1; rank = 1; name = [] })
