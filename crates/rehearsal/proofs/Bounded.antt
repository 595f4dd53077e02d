-- The answers to a list of calls keep to the rows of a judgement.
use Rattle.std.proofs.Common.{◌≡◌, ℕ, ◌+◌, ◌-◌, ◌<◌, ◌≤◌, Bool, true, false, ◌⊎◌, List, [], ◌∷◌, ◌++◌, IfOk, Some, None, Ok, Err, Option, Result, sym, ◌∙◌, subst, inl, inr, arith}
use Rattle.std.proofs.lemmas.Bool.{cases_Bool, cond-true, cond-false}
use Rattle.table.specs.Rules.{TaskSet, Checked, task_at, task_count}
use Rattle.table.specs.declared.refusal.Refusal.{Refusal}
use Rattle.policy.specs.Order.{Order}
use Rattle.policy.specs.Laws.{Lawful}
use Rattle.theory.specs.Guarantee.{AdmittedBy}
use Rattle.theory.specs.Lists.{In}
use Rattle.theory.specs.Machine.{Work, State, Call, release, tick, look, Answer, Finished, Ran, refusal, ends, told, waiting, job_to_run, reply, answer, answer_by, answers, play, start}
use Rattle.theory.proofs.Choice.{Choice, nobody, leader, kept, choice}
use Rattle.theory.proofs.Courses.{play_snoc}
use Rattle.theory.proofs.MachineFacts.{facts_after, waits_of, all_known_waiting}
use Rattle.theory.proofs.QueueLimit.{never_full}
use Rattle.analysis.specs.Judged.{Given, Judged, row_at}
use Rattle.analysis.specs.declared.rows.Row.{Row}
use Rattle.analysis.specs.declared.rows.Judgement.{Judgement}
use Rattle.analysis.proofs.Promises.{rows_bound}
use Rattle.dispatch.specs.Replayed.{calls_of, answers_in}
use Rattle.dispatch.specs.declared.replies.Step.{Step}
use Rattle.rehearsal.specs.Replayed.{Replayed}
use Rattle.rehearsal.specs.Within.{WithinRows, OnTime}
use Rattle.rehearsal.proofs.Promise.{meets}

-- an answer is that to some call after some of the calls
somewhere : (s : TaskSet) (o : Order) (x : Answer) (before calls : List Call) → In x (answers s o (play s o start before) calls) → (cs : List Call) × (c : Call) × (x ≡ answer s o (play s o start cs) c)
unfolding answers
somewhere s o x before [] m = absurd m
somewhere s o x before (c ∷ calls) (inl here) = (before, c, here)
somewhere s o x before (c ∷ calls) (inr m) = somewhere s o x (before ++ (c ∷ [])) calls (subst (λ st. In x (answers s o st calls)) (sym (play_snoc s o start before c)) m)

-- a response that is told is at most R of the task, where every unfinished job is younger than its R
module _ (s : TaskSet) (o : Order) (R : ℕ → ℕ) (st : State) (young : (w : Work) → In w st.jobs → w.finished ≡ false → st.time < w.release + R w.task) (i r x : ℕ) where
  ran : (done : Bool) (y : Work) → In y (waiting st) → Finished i r x ≡ told s done (st.time + 1) (Some y) → x ≤ R i
  ran done y m f = go (cases_Bool (ends s done y))
    where
      same : Finished i r x ≡ Finished y.task y.release (st.time + 1 - y.release) → x ≤ R i
      same e =
          let task : i ≡ y.task = cc in
          let long : x ≡ st.time + 1 - y.release = cc in
          subst (λ k. x ≤ R k) (sym task) (omega (arith, long, young y (waits_of st y m).0 (waits_of st y m).1))

      go : (ends s done y ≡ true) ⊎ (ends s done y ≡ false) → x ≤ R i
      go (inl e) = same (f ∙ cond-true (ends s done y) _ _ e)
      go (inr e) = let not_so : Finished i r x ≡ Ran y.task y.release = f ∙ cond-false (ends s done y) _ _ e in let z : ◌≡◌ {A = ℕ} 0 1 = cc in omega arith

  ticked : (done : Bool) (w : Option Work) → Choice s.mode o (waiting st) w → Finished i r x ≡ told s done (st.time + 1) w → x ≤ R i
  ticked done w (nobody none) f = let z : ◌≡◌ {A = ℕ} 0 1 = cc in omega arith
  ticked done w (leader y m all none) f = ran done y m f
  ticked done w (kept y m mode b) f = ran done y m f

  replied : (c : Call) → Choice s.mode o (waiting st) (job_to_run s.mode o (waiting st)) → Finished i r x ≡ reply s o st c → x ≤ R i
  replied (release j) ch f = let z : ◌≡◌ {A = ℕ} 0 1 = cc in omega arith
  replied (tick done) ch f = ticked done (job_to_run s.mode o (waiting st)) ch f
  replied (look j) ch f = let z : ◌≡◌ {A = ℕ} 0 1 = cc in omega arith

  answered : (c : Call) (q : Option Refusal) → Choice s.mode o (waiting st) (job_to_run s.mode o (waiting st)) → Finished i r x ≡ answer_by s o st c q → x ≤ R i
  answered c None ch f = replied c ch f
  answered c (Some e) ch f = let z : ◌≡◌ {A = ℕ} 0 1 = cc in omega arith

module _ (s : TaskSet) (o : Order) (checked : Checked s) (law : Lawful s o) where
  -- so for every answer to a list of calls
  all_within : (R : ℕ → ℕ) → ((cs : List Call) (w : Work) → In w (play s o start cs).jobs → w.finished ≡ false → (play s o start cs).time < w.release + R w.task)
      → (calls : List Call) (i r x : ℕ) → In (Finished i r x) (answers s o start calls) → x ≤ R i
  unfolding play answer
  all_within R young calls i r x m =
      let found = somewhere s o (Finished i r x) [] calls m in
      let st = play s o start found.0 in
      answered s o R st (young found.0) i r x found.1 (refusal s st found.1) (choice s o law s.mode (waiting st) (all_known_waiting s o checked law st (facts_after s o checked law found.0))) found.2

  module _ (before rows : List Row) (j : Judgement) (given : Given s o before rows j) (calls : List Call) where
    within_rows : WithinRows rows (answers s o start calls)
    within_rows = all_within (λ k. (row_at rows k).response) (rows_bound s o checked law before rows j given) calls

    on_time : OnTime s j.verdict (answers s o start calls)
    on_time punctual = (all_within (λ k. (task_at s k).deadline) young calls, never_full s o j.busy_period checked law given.busy admitted calls)
      where
        within : (i : ℕ) → i < task_count s → (row_at rows i).response ≤ (task_at s i).deadline
        within i h = omega (arith, meets (task_count s) rows j.verdict given.verdict punctual i h, (given.rows i h).1)

        young : (cs : List Call) (w : Work) → In w (play s o start cs).jobs → w.finished ≡ false → (play s o start cs).time < w.release + (task_at s w.task).deadline
        young cs w m f = omega (arith, rows_bound s o checked law before rows j given cs w m f, within w.task ((facts_after s o checked law cs).known w m))

        admitted : AdmittedBy s o j.busy_period
        admitted i r a h worst = omega (arith, (given.rows i h).0.longest a r worst.inside worst.given, within i h)

  -- the answers that are written beside a judgement
  pub kept_within : (before rows : List Row) (steps written : List Step) (r : Result Judgement Refusal) → Judged s o before rows r → Replayed s o steps written r
      → IfOk r (λ _. WithinRows rows (answers_in written)) × IfOk r (λ j. OnTime s j.verdict (answers_in written))
  kept_within before rows steps written (Ok j) given (calls, told) = (
    subst (WithinRows rows) (sym told) (within_rows before rows j given (calls_of steps)),
    subst (OnTime s j.verdict) (sym told) (on_time before rows j given (calls_of steps)),
  )
  kept_within before rows steps written (Err e) refused same = (tt, tt)
