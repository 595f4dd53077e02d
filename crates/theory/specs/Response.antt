-- The response of a job of task i released at offset a into a busy period, preemptive and non-preemptive.
use Rattle.std.specs.Prelude.{◌≡◌, ℕ, suc, ◌+◌, ◌-◌, ◌*◌, ◌/◌, max, cond, ◌&&◌, pos, negsuc, ◌==◌, nat_lt}
use Rattle.table.specs.Rules.{TaskSet, task_at, task_count}
use Rattle.table.specs.declared.kinds.Mode.{Mode}
use Rattle.table.specs.declared.kinds.Mode.TheVariants.{NonPreemptive, Preemptive}
use Rattle.policy.specs.Order.{Order, job}
use Rattle.theory.specs.Sums.{sum_below, max_below, count_below}
use Rattle.theory.specs.LeastSolution.{LeastSolution}

-- how many k have k·T < t and the job of j released at k·T ahead of the job of i released at a (such a k is below t)
abbrev pub jobs_ahead : TaskSet → Order → ℕ → ℕ → ℕ → ℕ → ℕ
jobs_ahead s o i a j t = count_below t (λ k. nat_lt (k * (task_at s j).period) t && o.ahead (job j (pos (k * (task_at s j).period))) (job i (pos a)))

-- the work of the other tasks' jobs that are ahead, released before t
abbrev pub work_ahead : TaskSet → Order → ℕ → ℕ → ℕ → ℕ
work_ahead s o i a t = sum_below (task_count s) (λ j. cond (j == i) 0 (jobs_ahead s o i a j t * (task_at s j).cost))

-- blocking: the greatest C - 1 among the other tasks whose job released at -1 is behind, or 0
abbrev pub blocking : TaskSet → Order → ℕ → ℕ → ℕ
blocking s o i a = max_below (task_count s) (λ j. cond (j == i) 0 (cond (o.ahead (job i (pos a)) (job j (negsuc 0))) ((task_at s j).cost - 1) 0))

-- what has to be done before the job of i is finished, in a window of t ticks
abbrev pub until_finish : TaskSet → Order → ℕ → ℕ → ℕ → ℕ
until_finish s o i a t = (1 + a / (task_at s i).period) * (task_at s i).cost + work_ahead s o i a t

-- what has to be done before the job of i begins, if it begins after t ticks: releases at t itself count too (k·T ≤ t is k·T < t + 1)
abbrev pub until_start : TaskSet → Order → ℕ → ℕ → ℕ → ℕ
until_start s o i a t = (blocking s o i a + a / (task_at s i).period * (task_at s i).cost) + work_ahead s o i a (suc t)

-- r is the response at offset a: it ends with the least F of at least 1, or begins with the least G, and is never below C
abbrev pub ResponseIn : Mode → TaskSet → Order → ℕ → ℕ → ℕ → Type 0
ResponseIn Preemptive s o i a r = (F : ℕ) × LeastSolution 1 (until_finish s o i a) F × (r ≡ max (task_at s i).cost (F - a))
ResponseIn NonPreemptive s o i a r = (G : ℕ) × LeastSolution 0 (until_start s o i a) G × (r ≡ max (task_at s i).cost (G + (task_at s i).cost - a))

abbrev pub ResponseAt : TaskSet → Order → ℕ → ℕ → ℕ → Type 0
ResponseAt s o i a r = ResponseIn s.mode s o i a r
