-- The demand criterion for deadline order: at every deadline point the work due by then fits, with what may block it.
use Rattle.std.specs.Prelude.{ℕ, ◌+◌, ◌-◌, ◌*◌, ◌/◌, ◌<◌, ◌≤◌, cond, nat_le, nat_lt}
use Rattle.table.specs.Rules.{TaskSet, task_at, task_count}
use Rattle.table.specs.declared.kinds.Mode.{Mode}
use Rattle.table.specs.declared.kinds.Mode.TheVariants.{NonPreemptive, Preemptive}
use Rattle.policy.specs.Order.{Order}
use Rattle.policy.specs.Laws.{Lawful}
use Rattle.policy.specs.Orders.{deadline_order}
use Rattle.theory.specs.Sums.{sum_below, max_below}
use Rattle.theory.specs.Guarantee.{AdmittedBy}

-- h(t): the sum over the tasks with D ≤ t of (1 + floor((t - D) / T))·C
abbrev pub demand : TaskSet → ℕ → ℕ
demand s t = sum_below (task_count s) (λ j. cond (nat_le (task_at s j).deadline t) ((1 + (t - (task_at s j).deadline) / (task_at s j).period) * (task_at s j).cost) 0)

-- without preemption the greatest C - 1 among the tasks with D > t, or 0
abbrev pub demand_blocking : Mode → TaskSet → ℕ → ℕ
demand_blocking Preemptive s t = 0
demand_blocking NonPreemptive s t = max_below (task_count s) (λ j. cond (nat_lt t (task_at s j).deadline) ((task_at s j).cost - 1) 0)

abbrev pub FitsBy : TaskSet → ℕ → Type 0
FitsBy s t = demand s t + demand_blocking s.mode s t ≤ t

-- it fits at every t of the form D + k·T
abbrev pub Criterion : TaskSet → Type 0
Criterion s = (i k : ℕ) → i < task_count s → FitsBy s ((task_at s i).deadline + k * (task_at s i).period)

-- whatever lawful order admits the task set, the criterion holds
abbrev pub CriterionNeeded : TaskSet → ℕ → Type 0
CriterionNeeded s L = (o : Order) → Lawful s o → AdmittedBy s o L → Criterion s

-- deadline order admits the task set exactly when the criterion holds
abbrev pub DeadlineAsPublished : TaskSet → ℕ → Type 0
DeadlineAsPublished s L = (AdmittedBy s (deadline_order s) L → Criterion s) × (Criterion s → AdmittedBy s (deadline_order s) L)
