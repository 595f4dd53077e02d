-- The worst course of a task at an offset: releases that make its job take as long as it can.
use Rattle.std.specs.Prelude.{ℕ, zero, suc, ◌+◌, ◌-◌, ◌%◌, Bool, false, cond, not, ◌&&◌, List, [], ◌∷◌, ◌++◌, pos, negsuc, ◌==◌, nat_le, nat_lt}
use Rattle.table.specs.Rules.{TaskSet, task_at, task_count}
use Rattle.table.specs.declared.kinds.Mode.{Mode}
use Rattle.table.specs.declared.kinds.Mode.TheVariants.{NonPreemptive, Preemptive}
use Rattle.policy.specs.Order.{Order, job}
use Rattle.theory.specs.Machine.{Call, release, tick}
use Rattle.theory.specs.Response.{blocking}

-- the blocking that a course has to make: none where jobs can be displaced
abbrev pub blocking_in : Mode → TaskSet → Order → ℕ → ℕ → ℕ
blocking_in Preemptive s o i a = 0
blocking_in NonPreemptive s o i a = blocking s o i a

abbrev pub course_blocking : TaskSet → Order → ℕ → ℕ → ℕ
course_blocking s o i a = blocking_in s.mode s o i a

-- task j, not i, has its job at -1 behind and its C - 1 is the blocking
abbrev pub blocks : TaskSet → Order → ℕ → ℕ → ℕ → Bool
blocks s o i a j = not (j == i) && (o.ahead (job i (pos a)) (job j (negsuc 0)) && (task_at s j).cost - 1 == course_blocking s o i a)

-- the least number below n that passes the test, or n
unfoldable pub least_below : ℕ → (ℕ → Bool) → ℕ
least_below zero p = zero
least_below (suc n) p = cond (nat_lt (least_below n p) n) (least_below n p) (cond (p n) n (suc n))

-- the lowest-numbered task that gives the blocking
abbrev pub blocker : TaskSet → Order → ℕ → ℕ → ℕ
blocker s o i a = least_below (task_count s) (blocks s o i a)

-- 1 where there is blocking, else 0
abbrev pub lead : TaskSet → Order → ℕ → ℕ → ℕ
lead s o i a = cond (course_blocking s o i a == 0) 0 1

-- the blocker releases once at 0; task i at lead + (a mod T) and every T after it up to lead + a; every other task at lead + k·T
abbrev pub releases_at : TaskSet → Order → ℕ → ℕ → ℕ → ℕ → Bool
releases_at s o i a j t =
    cond (j == i) ((nat_le (lead s o i a + a % (task_at s i).period) t && nat_le t (lead s o i a + a)) && (t - (lead s o i a + a % (task_at s i).period)) % (task_at s i).period == 0)
    (cond (not (lead s o i a == 0) && j == blocker s o i a) (t == 0)
    (nat_le (lead s o i a) t && (t - lead s o i a) % (task_at s j).period == 0))

-- the releases at tick t of the tasks below n, in task order
unfoldable pub releases_below : TaskSet → Order → ℕ → ℕ → ℕ → ℕ → List Call
releases_below s o i a t zero = []
releases_below s o i a t (suc n) = releases_below s o i a t n ++ cond (releases_at s o i a n t) (release n ∷ []) []

-- at each time below `end` the releases so told, then a tick without done
unfoldable pub course_until : TaskSet → Order → ℕ → ℕ → ℕ → List Call
course_until s o i a zero = []
course_until s o i a (suc end) = course_until s o i a end ++ (releases_below s o i a end (task_count s) ++ (tick false ∷ []))

-- up to time lead + a + r
abbrev pub worst_course : TaskSet → Order → ℕ → ℕ → ℕ → List Call
worst_course s o i a r = course_until s o i a (lead s o i a + a + r)
