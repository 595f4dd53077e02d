-- The job to run, among the first jobs of the lines. `a` says which of two jobs is ahead of the other.
use Rattle.std.specs.Prelude.{◌≡◌, ℕ, ◌<◌, Bool, false, cond, List, [], ◌∷◌, pos, Some, None, Option}
use Rattle.table.specs.declared.kinds.Mode.{Mode}
use Rattle.table.specs.declared.kinds.Mode.TheVariants.{NonPreemptive, Preemptive}
use Rattle.policy.specs.Order.{job}
use Rattle.policy.specs.declared.job.Job.{Job}
use Rattle.dispatch.specs.Summaries.{Summary, Pending}
use Rattle.dispatch.specs.declared.stage.Head.{Head}
use Rattle.dispatch.specs.declared.stage.Stage.{Stage}
use Rattle.dispatch.specs.declared.stage.Stage.TheVariants.{Idle, Begun}

abbrev pub first_release : List Pending → Option ℕ
first_release [] = None
first_release (p ∷ ps) = Some p.release

abbrev pub head : ℕ → ℕ → Head
head i q = record { task = i; release = q }

abbrev pub head_job : Head → Job
head_job h = job h.task (pos h.release)

-- the better of the best so far and the first job of task j, if one waits
abbrev pub better_of : (Job → Job → Bool) → Option Head → ℕ → Option ℕ → Option Head
better_of a best j None = best
better_of a None j (Some q) = Some (head j q)
better_of a (Some h) j (Some q) = cond (a (job j (pos q)) (head_job h)) (Some (head j q)) (Some h)

-- the first of the n tasks that has a waiting job, with its oldest
abbrev pub FirstWaiting : (ℕ → Summary) → ℕ → Option Head → Type 0
FirstWaiting b n None = (k : ℕ) → k < n → first_release (b k).waiting ≡ None
FirstWaiting b n (Some h) = (h.task < n) × (first_release (b h.task).waiting ≡ Some h.release) × ((k : ℕ) → k < h.task → first_release (b k).waiting ≡ None)

-- none of the first n tasks has a waiting job, or this is the first of its line and none that is first is ahead of it
abbrev pub Leading : (Job → Job → Bool) → (ℕ → Summary) → ℕ → Option Head → Type 0
Leading a b n None = (k : ℕ) → k < n → first_release (b k).waiting ≡ None
Leading a b n (Some h) = (h.task < n) × (first_release (b h.task).waiting ≡ Some h.release) × ((k q : ℕ) → k < n → first_release (b k).waiting ≡ Some q → a (job k (pos q)) (head_job h) ≡ false)

-- the same, told by the task alone
abbrev pub Leads : (Job → Job → Bool) → (ℕ → Summary) → ℕ → Option ℕ → Type 0
Leads a b n None = Leading a b n None
Leads a b n (Some i) = (q : ℕ) × Leading a b n (Some (head i q))

-- the task whose first job is to run: without preemption that of the begun job, else the leading one
abbrev pub Picked : Mode → Stage → (Job → Job → Bool) → (ℕ → Summary) → ℕ → Option ℕ → Type 0
Picked NonPreemptive (Begun i) a b n r = r ≡ Some i
Picked NonPreemptive Idle a b n r = Leads a b n r
Picked Preemptive stage a b n r = Leads a b n r
