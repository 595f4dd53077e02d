-- What the judgement promises of every run, for a checked task set with a busy period L and any lawful order.
use Rattle.std.specs.Prelude.{◌≡◌, ℕ, ◌+◌, ◌<◌, ◌≤◌, false, List, [], ◌∷◌, ◌++◌, Some}
use Rattle.table.specs.Rules.{TaskSet, task_at, task_count}
use Rattle.table.specs.declared.refusal.Refusal.{Refusal}
use Rattle.table.specs.declared.refusal.Refusal.TheVariants.{QueueFull}
use Rattle.policy.specs.Order.{Order}
use Rattle.theory.specs.Lists.{In}
use Rattle.theory.specs.Machine.{Work, State, Call, release, Answer, Refused, Finished, refusal, start, play, answers}
use Rattle.theory.specs.Course.{lead, worst_course}
use Rattle.theory.specs.Worst.{Worst}

-- the state of the reference machine after a list of calls
abbrev pub after : TaskSet → Order → List Call → State
after s o calls = play s o start calls

-- every task's worst response is within its deadline
abbrev pub AdmittedBy : TaskSet → Order → ℕ → Type 0
AdmittedBy s o L = (i r a : ℕ) → i < task_count s → Worst s o L i r a → r ≤ (task_at s i).deadline

-- some task's worst response exceeds its deadline
abbrev pub LateBy : TaskSet → Order → ℕ → Type 0
LateBy s o L = (i : ℕ) × (r : ℕ) × (a : ℕ) × (i < task_count s) × Worst s o L i r a × ((task_at s i).deadline < r)

-- never longer: after every list of calls, each unfinished job is younger than the worst response of its task
abbrev pub NeverLonger : TaskSet → Order → ℕ → Type 0
NeverLonger s o L = (calls : List Call) (w : Work) (r a : ℕ) → In w (after s o calls).jobs → w.finished ≡ false → Worst s o L w.task r a → (after s o calls).time < w.release + r

-- attained: in an admitted task set no call of a task's worst course is refused, and its last answer tells the job that finishes with the worst response
abbrev pub Attained : TaskSet → Order → ℕ → Type 0
Attained s o L = AdmittedBy s o L → (i r a : ℕ) → i < task_count s → Worst s o L i r a
    → ((e : Refusal) → In (Refused e) (answers s o start (worst_course s o i a r)) → ⊥)
    × ((before : List Answer) × (answers s o start (worst_course s o i a r) ≡ before ++ (Finished i (lead s o i a + a) r ∷ [])))

-- some list of calls leaves a job unfinished at its deadline
abbrev pub Misses : TaskSet → Order → Type 0
Misses s o = (calls : List Call) × (w : Work) × In w (after s o calls).jobs × (w.finished ≡ false) × ((after s o calls).time ≡ w.release + (task_at s w.task).deadline)

-- late exactly when some list of calls leaves a job unfinished at its deadline
abbrev pub LateExactly : TaskSet → Order → ℕ → Type 0
LateExactly s o L = (LateBy s o L → Misses s o) × (Misses s o → LateBy s o L)

-- after these calls some job is unfinished with its deadline reached
abbrev pub OverdueAfter : TaskSet → Order → List Call → Type 0
OverdueAfter s o calls = (w : Work) × In w (after s o calls).jobs × (w.finished ≡ false) × (w.release + (task_at s w.task).deadline ≤ (after s o calls).time)

-- some job of task j is
abbrev pub OverdueOf : TaskSet → Order → List Call → ℕ → Type 0
OverdueOf s o calls j = (w : Work) × In w (after s o calls).jobs × (w.task ≡ j) × (w.finished ≡ false) × (w.release + (task_at s j).deadline ≤ (after s o calls).time)

-- a release that is refused for a full line finds a deadline already missed
abbrev pub FullLineOverdue : TaskSet → Order → Type 0
FullLineOverdue s o = (calls : List Call) (j k : ℕ) → refusal s (after s o calls) (release j) ≡ Some (QueueFull k) → OverdueAfter s o calls

-- a release that is refused for a full line finds a deadline of its own task already missed
abbrev pub FullLineOverdueItself : TaskSet → Order → Type 0
FullLineOverdueItself s o = (calls : List Call) (j k : ℕ) → refusal s (after s o calls) (release j) ≡ Some (QueueFull k) → OverdueOf s o calls j

-- in an admitted task set no list of calls meets a full line
abbrev pub NeverFull : TaskSet → Order → ℕ → Type 0
NeverFull s o L = AdmittedBy s o L → (calls : List Call) (k : ℕ) → In (Refused (QueueFull k)) (answers s o start calls) → ⊥
