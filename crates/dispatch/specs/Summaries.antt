-- All that a run has to know of one task's jobs: those that wait, the oldest first, the next tick at which a release is free, and the counts of the finished ones.
use Rattle.std.specs.Prelude.{ℕ, ◌+◌, ◌-◌, max, Bool, cond, ◌||◌, List, [], ◌∷◌, ◌++◌, length, nat_le, nat_lt}
use Rattle.table.specs.Rules.{TaskSet, task_at}
use Rattle.table.specs.Sporadic.{Sporadic}
use Rattle.theory.specs.Machine.{Work, Counts, of_task}

-- a waiting job: its release tick, and how many ticks it ran
pub record Pending : Type 0 where
  pub release : ℕ
  pub ran : ℕ

pub record Summary : Type 0 where
  pub waiting : List Pending
  pub free : ℕ
  pub finished : ℕ
  pub missed : ℕ
  pub longest : ℕ

abbrev pub no_summary : Summary
no_summary = record { waiting = []; free = 0; finished = 0; missed = 0; longest = 0 }

abbrev pub pending : ℕ → ℕ → Pending
pending r n = record { release = r; ran = n }

-- one newer job of the task: finished or not, its release, ticks and response
abbrev pub newer : Sporadic → Bool → ℕ → ℕ → ℕ → Summary → Summary
newer t over r n response u = cond over
    (record { waiting = u.waiting; free = r + t.period; finished = 1 + u.finished; missed = cond (nat_lt t.deadline response) 1 0 + u.missed; longest = max response u.longest })
    (record { waiting = u.waiting ++ (pending r n ∷ []); free = r + t.period; finished = u.finished; missed = u.missed; longest = u.longest })

-- the jobs of task j in a list with the newest first
unfoldable pub summed : TaskSet → ℕ → List Work → Summary
summed s j [] = no_summary
summed s j (w ∷ ws) = cond (of_task j w) (newer (task_at s j) w.finished w.release w.ran w.response (summed s j ws)) (summed s j ws)

-- a release at this time
abbrev pub joined : Sporadic → ℕ → Summary → Summary
joined t time u = record { waiting = u.waiting ++ (pending time 0 ∷ []); free = time + t.period; finished = u.finished; missed = u.missed; longest = u.longest }

-- whether the job finishes with its next tick
abbrev pub ends_now : Sporadic → Bool → Pending → Bool
ends_now t done p = done || nat_le t.cost (p.ran + 1)

-- one tick of the first waiting job p, which brings the time to `later`; ps wait behind it
abbrev pub moved : Sporadic → Bool → ℕ → Pending → List Pending → Summary → Summary
moved t over later p ps u = cond over
    (record { waiting = ps; free = u.free; finished = u.finished + 1; missed = u.missed + cond (nat_lt t.deadline (later - p.release)) 1 0; longest = max u.longest (later - p.release) })
    (record { waiting = pending p.release (p.ran + 1) ∷ ps; free = u.free; finished = u.finished; missed = u.missed; longest = u.longest })

-- the counts of the task
abbrev pub counts_of : Summary → Counts
counts_of u = record { accepted = u.finished + length u.waiting; finished = u.finished; waiting = length u.waiting; missed = u.missed; longest = u.longest }
