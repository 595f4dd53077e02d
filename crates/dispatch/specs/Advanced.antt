-- What a tick changes in a station, given the task whose first job is to run.
use Rattle.std.specs.Prelude.{◌≡◌, ℕ, ◌-◌, ◌<◌, Bool, cond, List, ◌∷◌, Some, None, Option, ◌≢◌}
use Rattle.table.specs.Rules.{TaskSet, task_at, task_count}
use Rattle.table.specs.declared.kinds.Mode.{Mode}
use Rattle.table.specs.declared.kinds.Mode.TheVariants.{NonPreemptive, Preemptive}
use Rattle.dispatch.specs.Summaries.{Summary, Pending, moved, ends_now}
use Rattle.dispatch.specs.declared.replies.Ticked.{Ticked}
use Rattle.dispatch.specs.declared.replies.Ticked.TheVariants as ticked
use Rattle.dispatch.specs.declared.stage.Outcome.{Outcome}
use Rattle.dispatch.specs.declared.stage.Outcome.TheVariants.{Idled, Went, Ended}
use Rattle.dispatch.specs.declared.stage.Stage.{Stage}
use Rattle.dispatch.specs.declared.stage.Stage.TheVariants.{Idle, Begun}

-- without preemption a job that is not finished may not be displaced
abbrev pub stage_after : Mode → Stage → Outcome → Stage
stage_after Preemptive stage e = stage
stage_after NonPreemptive stage Idled = Idle
stage_after NonPreemptive stage (Went i) = Begun i
stage_after NonPreemptive stage Ended = Idle

abbrev pub outcome_of : Bool → ℕ → Outcome
outcome_of over i = cond over Ended (Went i)

-- the job of task i released at r ran; the time is now `later`
abbrev pub told_of : Bool → ℕ → ℕ → ℕ → Ticked
told_of over i r later = cond over (ticked.Finished i r (later - r)) (ticked.Ran i r)

-- the first job p of task i ran; from the lines b to the lines c
pub record Moves (s : TaskSet) (later : ℕ) (b c : ℕ → Summary) (from to : Stage) (i : ℕ) (over : Bool) (p : Pending) (ps : List Pending) (r : Ticked) : Type 0 where
  pub here : c i ≡ moved (task_at s i) over later p ps (b i)
  pub others : (k : ℕ) → (k ≢ i) → c k ≡ b k
  pub stage : to ≡ stage_after s.mode from (outcome_of over i)
  pub told : r ≡ told_of over i p.release later

pub record Stays (s : TaskSet) (b c : ℕ → Summary) (from to : Stage) (r : Ticked) : Type 0 where
  pub lines : (k : ℕ) → c k ≡ b k
  pub stage : to ≡ stage_after s.mode from Idled
  pub told : r ≡ ticked.Idle

pub record Advanced (s : TaskSet) (later : ℕ) (b c : ℕ → Summary) (from to : Stage) (chosen : Option ℕ) (done : Bool) (r : Ticked) : Type 0 where
  pub idle : chosen ≡ None → Stays s b c from to r
  pub ran : (i : ℕ) (p : Pending) (ps : List Pending) → chosen ≡ Some i → i < task_count s → (b i).waiting ≡ p ∷ ps → Moves s later b c from to i (ends_now (task_at s i) done p) p ps r
