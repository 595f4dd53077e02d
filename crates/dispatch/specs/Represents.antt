-- When a station stands for a state of the reference machine, and which calls it has answered.
use Rattle.std.specs.Prelude.{◌≡◌, ℕ, ◌<◌, ◌≤◌, List, [], ◌∷◌, ◌++◌, ◌≢◌}
use Rattle.table.specs.Model.{content}
use Rattle.table.specs.Rules.{TaskSet, task_count}
use Rattle.table.specs.declared.kinds.Mode.TheVariants.{NonPreemptive}
use Rattle.policy.specs.Order.{Order}
use Rattle.theory.specs.Machine.{State, Call, Answer, start, play, answer}
use Rattle.dispatch.specs.Lines.{board}
use Rattle.dispatch.specs.Summaries.{Summary, Pending, summed}
use Rattle.dispatch.specs.declared.stage.Stage.{Stage}
use Rattle.dispatch.specs.declared.stage.Stage.TheVariants.{Idle, Begun}
use Rattle.dispatch.specs.declared.station.Station.{Station}

-- how many ticks the first of the waiting jobs ran
abbrev pub ran_first : List Pending → ℕ
ran_first [] = 0
ran_first (p ∷ ps) = p.ran

-- the stage tells the only task of the n whose first job is begun, if there is one
abbrev pub Fits : Stage → ℕ → (ℕ → Summary) → Type 0
Fits Idle n b = (j : ℕ) → j < n → ran_first (b j).waiting ≡ 0
Fits (Begun i) n b = (i < n) × (1 ≤ ran_first (b i).waiting) × ((j : ℕ) → j < n → (j ≢ i) → ran_first (b j).waiting ≡ 0)

-- the task set, the time, the lines and the stage of a station stand for a state
pub record Represents (s : TaskSet) (now_is : ℕ) (b : ℕ → Summary) (begun : Stage) (st : State) : Type 0 where
  pub time : now_is ≡ st.time
  pub lines : (j : ℕ) → j < task_count s → b j ≡ summed s j st.jobs
  pub stage : s.mode ≡ NonPreemptive → Fits begun (task_count s) b

-- the station has answered these calls, under this order
abbrev pub Answered : Order → Station → List Call → Type 0
Answered o d calls = Represents (content d.table) d.time (board d.lines) d.stage (play (content d.table) o start calls)

-- from d to e: for every list of calls that d has answered, e has answered that list and the call c, and `given` is the reference machine's answer to it
abbrev pub Answers : Order → Station → Station → Call → Answer → Type 0
Answers o d e c given = (calls : List Call) → Answered o d calls → Answered o e (calls ++ (c ∷ [])) × (given ≡ answer (content d.table) o (play (content d.table) o start calls) c)
