-- The laws of an order on the jobs of a task set. Releases may be any whole numbers, negative ones too.
use Rattle.std.specs.Prelude.{◌≡◌, ℕ, ◌<◌, true, not, ℤ, pos, negsuc, ◌≤ℤ◌, ◌<ℤ◌, ◌≢◌}
use Rattle.table.specs.Rules.{TaskSet, task_count}
use Rattle.policy.specs.Order.{Order, job, reaches}
use Rattle.policy.specs.declared.job.Job.{Job}
use Rattle.policy.specs.declared.job.Reach.{Reach}
use Rattle.policy.specs.declared.job.Reach.TheVariants.{Always, Never, Within}

-- the job's task is one of the table's
abbrev pub Known : TaskSet → Job → Type 0
Known s x = x.task < task_count s

-- of two different jobs exactly one is ahead of the other
abbrev pub Total : TaskSet → Order → Type 0
Total s o = (x y : Job) → Known s x → Known s y → (x ≢ y) → o.ahead x y ≡ not (o.ahead y x)

-- what is ahead of a job that is ahead of a third is ahead of the third
abbrev pub Transitive : TaskSet → Order → Type 0
Transitive s o = (x y z : Job) → Known s x → Known s y → Known s z → (x ≢ y) → (y ≢ z) → o.ahead x y ≡ true → o.ahead y z ≡ true → o.ahead x z ≡ true

-- of two jobs of one task the earlier is ahead
abbrev pub EarlierFirst : TaskSet → Order → Type 0
EarlierFirst s o = (i : ℕ) (r a : ℤ) → i < task_count s → r <ℤ a → o.ahead (job i r) (job i a) ≡ true

-- a reach is Always, Never or a number from -100,000 to 100,000
abbrev pub SmallReach : Reach → Type 0
SmallReach Always = Unit {0}
SmallReach Never = Unit {0}
SmallReach (Within y) = (negsuc 99999 ≤ℤ y) × (y ≤ℤ pos 100000)

abbrev pub ReachRange : TaskSet → Order → Type 0
ReachRange s o = (i j : ℕ) → i < task_count s → j < task_count s → (i ≢ j) → SmallReach (o.reach i j)

-- a job of another task j released at r is ahead of a job of i released at a exactly as the reach from i to j says
abbrev pub ReachRule : TaskSet → Order → Type 0
ReachRule s o = (i j : ℕ) (r a : ℤ) → i < task_count s → j < task_count s → (i ≢ j) → o.ahead (job j r) (job i a) ≡ reaches (o.reach i j) r a

-- a lawful order keeps all of them
pub record Lawful (s : TaskSet) (o : Order) : Type 0 where
  pub total : Total s o
  pub transitive : Transitive s o
  pub earlier_first : EarlierFirst s o
  pub reach_range : ReachRange s o
  pub reach_rule : ReachRule s o
