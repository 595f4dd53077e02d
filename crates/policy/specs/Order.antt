-- What a policy means for one task set: which of two jobs is ahead of the other, and the reach from each task to each other one.
use Rattle.std.specs.Prelude.{ℕ, Bool, true, false, ℤ, ◌+ℤ◌, int_le}
use Rattle.policy.specs.declared.job.Job.{Job}
use Rattle.policy.specs.declared.job.Reach.{Reach}
use Rattle.policy.specs.declared.job.Reach.TheVariants.{Always, Never, Within}

-- `ahead x y`: x is ahead of y; `reach i j`: from task i to task j
pub record Order : Type 0 where
  pub ahead : Job → Job → Bool
  pub reach : ℕ → ℕ → Reach

abbrev pub job : ℕ → ℤ → Job
job i r = record { task = i; release = r }

-- whether this reach puts a job released at r ahead of one released at a
abbrev pub reaches : Reach → ℤ → ℤ → Bool
reaches Always r a = true
reaches Never r a = false
reaches (Within y) r a = int_le r (a +ℤ y)
