-- The reference machine: what a run has to answer to every list of calls. It is fed with the calls alone, from time 0 with no jobs.
use Rattle.std.specs.Prelude.{ℕ, ◌+◌, ◌-◌, Bool, true, false, cond, not, ◌&&◌, ◌||◌, ltb, List, [], ◌∷◌, map, pos, Some, None, Option, ◌==◌, nat_le, nat_lt}
use Rattle.table.specs.Rules.{TaskSet, task_at, task_count}
use Rattle.table.specs.declared.kinds.Mode.{Mode}
use Rattle.table.specs.declared.kinds.Mode.TheVariants.{NonPreemptive, Preemptive}
use Rattle.table.specs.declared.refusal.Refusal.{Refusal}
use Rattle.table.specs.declared.refusal.Refusal.TheVariants.{NoTaskToRun, TooSoon, QueueFull, TimeOver}
use Rattle.policy.specs.Order.{Order, job}
use Rattle.theory.specs.Lists.{every, any, those, first_such, how_many, greatest}

-- a job that was accepted: its task, its release tick, how many ticks it ran, whether it is finished, and then its response
pub record Work : Type 0 where
  pub task : ℕ
  pub release : ℕ
  pub ran : ℕ
  pub finished : Bool
  pub response : ℕ

-- the time is the number of ticks that were not refused; every accepted job is kept, the newest first
pub record State : Type 0 where
  pub time : ℕ
  pub jobs : List Work

pub data Call : Type 0 where
  release : ℕ → Call
  tick : Bool → Call
  look : ℕ → Call

pub record Counts : Type 0 where
  pub accepted : ℕ
  pub finished : ℕ
  pub waiting : ℕ
  pub missed : ℕ
  pub longest : ℕ

pub data Answer : Type 0 where
  Refused : Refusal → Answer
  -- the time of the release
  Released : ℕ → Answer
  -- no job ran
  Idle : Answer
  -- the job of this task, released at this tick, ran and is not finished
  Ran : ℕ → ℕ → Answer
  -- it ran and finished, with this response
  Finished : ℕ → ℕ → ℕ → Answer
  Looked : Counts → Answer

-- a line holds this many waiting jobs, and the clock ends here
abbrev pub longest_line : ℕ
longest_line = 8

abbrev pub last_time : ℕ
last_time = 4000000000

abbrev pub of_task : ℕ → Work → Bool
of_task j w = w.task == j

abbrev pub waits : Work → Bool
waits w = not w.finished

abbrev pub waiting : State → List Work
waiting st = those waits st.jobs

-- why a call is refused, if it is: a missing task; a release less than T ticks after an accepted one; a full line; the end of the clock
abbrev pub refusal : TaskSet → State → Call → Option Refusal
refusal s st (release j) =
    cond (nat_le (task_count s) j) (Some (NoTaskToRun j))
    (cond (any (λ w. of_task j w && nat_lt st.time (w.release + (task_at s j).period)) st.jobs) (Some (TooSoon j))
    (cond (nat_le longest_line (how_many (of_task j) (waiting st))) (Some (QueueFull j)) None))
refusal s st (tick done) = cond (nat_le last_time st.time) (Some TimeOver) None
refusal s st (look j) = cond (nat_le (task_count s) j) (Some (NoTaskToRun j)) None

abbrev pub same_work : Work → Work → Bool
same_work v w = v.task == w.task && v.release == w.release

-- v is ahead of w
abbrev pub work_before : Order → Work → Work → Bool
work_before o v w = o.ahead (job v.task (pos v.release)) (job w.task (pos w.release))

-- the job ahead of all that wait
abbrev pub first_in_line : Order → List Work → Option Work
first_in_line o ws = first_such (λ v. every (λ w. same_work v w || work_before o v w) ws) ws

abbrev pub begun : Work → Bool
begun w = nat_le 1 w.ran

abbrev pub or_else : {X : Type 0} → Option X → Option X → Option X
or_else None y = y
or_else (Some x) y = Some x

-- the job that a tick runs: without preemption the begun one, if there is one; else the job ahead of all that wait
abbrev pub job_to_run : Mode → Order → List Work → Option Work
job_to_run Preemptive o ws = first_in_line o ws
job_to_run NonPreemptive o ws = or_else (first_such begun ws) (first_in_line o ws)

-- the job finishes with its C-th tick, or where done is given
abbrev pub ends : TaskSet → Bool → Work → Bool
ends s done w = done || nat_le (task_at s w.task).cost (w.ran + 1)

-- one tick of a job, which brings the time to `later`
abbrev pub run_one : TaskSet → Bool → ℕ → Work → Work
run_one s done later w = record { task = w.task; release = w.release; ran = w.ran + 1; finished = ends s done w; response = cond (ends s done w) (later - w.release) 0 }

abbrev pub run_in : TaskSet → Bool → ℕ → Option Work → List Work → List Work
run_in s done later None ws = ws
run_in s done later (Some w) ws = map (λ v. cond (same_work v w) (run_one s done later v) v) ws

-- what an accepted call changes
abbrev pub accept : TaskSet → Order → State → Call → State
accept s o st (release j) = record { time = st.time; jobs = record { task = j; release = st.time; ran = 0; finished = false; response = 0 } ∷ st.jobs }
accept s o st (tick done) = record { time = st.time + 1; jobs = run_in s done (st.time + 1) (job_to_run s.mode o (waiting st)) st.jobs }
accept s o st (look j) = st

-- what an accepted tick tells
abbrev pub told : TaskSet → Bool → ℕ → Option Work → Answer
told s done later None = Idle
told s done later (Some w) = cond (ends s done w) (Finished w.task w.release (later - w.release)) (Ran w.task w.release)

-- missed: finished jobs whose response exceeded D
abbrev pub counted : TaskSet → State → ℕ → Counts
counted s st j =
    let mine = those (of_task j) st.jobs in
    let over = those (λ w. w.finished) mine in
    record { accepted = how_many (λ w. true) mine; finished = how_many (λ w. true) over; waiting = how_many waits mine; missed = how_many (λ w. ltb (task_at s j).deadline w.response) over; longest = greatest (λ w. w.response) over }

-- what an accepted call answers
abbrev pub reply : TaskSet → Order → State → Call → Answer
reply s o st (release j) = Released st.time
reply s o st (tick done) = told s done (st.time + 1) (job_to_run s.mode o (waiting st))
reply s o st (look j) = Looked (counted s st j)

-- a refused call changes nothing
abbrev pub step_by : TaskSet → Order → State → Call → Option Refusal → State
step_by s o st c None = accept s o st c
step_by s o st c (Some e) = st

abbrev pub answer_by : TaskSet → Order → State → Call → Option Refusal → Answer
answer_by s o st c None = reply s o st c
answer_by s o st c (Some e) = Refused e

unfoldable pub step : TaskSet → Order → State → Call → State
step s o st c = step_by s o st c (refusal s st c)

unfoldable pub answer : TaskSet → Order → State → Call → Answer
answer s o st c = answer_by s o st c (refusal s st c)

abbrev pub start : State
start = record { time = 0; jobs = [] }

-- the state after a list of calls, and the answers to them
unfoldable pub play : TaskSet → Order → State → List Call → State
play s o st [] = st
play s o st (c ∷ cs) = play s o (step s o st c) cs

unfoldable pub answers : TaskSet → Order → State → List Call → List Answer
answers s o st [] = []
answers s o st (c ∷ cs) = answer s o st c ∷ answers s o (step s o st c) cs
