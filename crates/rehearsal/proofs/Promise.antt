-- A worst course that is played from the row of an admitted table shows the response of the row.
use Rattle.std.proofs.Common.{◌≡◌, ℕ, ◌+◌, ◌<◌, true, eqb, List, Some, None, Ok, Err, Option, Result, sym, refl, ap, ◌∙◌, subst, arith}
use Rattle.std.proofs.lemmas.Bool.{lt-ltb, le-leb, eq-eqb, and_from, cond-true, cond-false}
use Rattle.table.specs.Rules.{TaskSet, Checked, task_count}
use Rattle.table.specs.declared.refusal.Refusal.{Refusal}
use Rattle.table.proofs.Ranges.{task_ranges}
use Rattle.policy.specs.Order.{Order}
use Rattle.policy.specs.Laws.{Lawful}
use Rattle.theory.specs.Machine.{Finished, answers, start}
use Rattle.theory.specs.Course.{lead, worst_course, course_until}
use Rattle.analysis.specs.Judged.{Given, VerdictOf, Meets, row_at}
use Rattle.analysis.specs.Promised.{IsLate}
use Rattle.analysis.specs.declared.rows.Row.{Row}
use Rattle.analysis.specs.declared.rows.Judgement.{Judgement}
use Rattle.analysis.specs.declared.rows.Verdict.{Verdict}
use Rattle.analysis.specs.declared.rows.Verdict.TheVariants.{Admitted, Late}
use Rattle.analysis.proofs.Promises.{rows_bound, rows_attained, verdict_exact}
use Rattle.courses.specs.declared.course.Course.{Course}
use Rattle.rehearsal.specs.Seen.{seen, told_by}
use Rattle.rehearsal.specs.Rehearsed.{Rehearsed, AsPromised, HoldsInRuns, playable, shown}
use Rattle.rehearsal.specs.ToPlay.{ToPlay}
use Rattle.rehearsal.proofs.Seeing.{seen_last}
use Rattle.rehearsal.proofs.Steps.{shown_is}

tells_itself : (i arrival response : ℕ) → told_by i arrival (Finished i arrival response) ≡ Some response
tells_itself i arrival response = cond-true _ (Some response) None (and_from (eqb i i) (eqb arrival arrival) (eq-eqb i i refl) (eq-eqb arrival arrival refl))

-- in an admitted table every row meets its deadline
pub meets : (n : ℕ) (rows : List Row) (v : Verdict) → VerdictOf n rows v → (IsLate v → ⊥) → (i : ℕ) → i < n → Meets rows i
meets n rows Admitted all on_time i h = all i h
meets n rows (Late k) late on_time i h = absurd (on_time tt)

module _ (s : TaskSet) (o : Order) (checked : Checked s) (law : Lawful s o) (before rows : List Row) (j : Judgement) (given : Given s o before rows j) (on_time : IsLate j.verdict → ⊥) (i : ℕ) (h : i < task_count s) where
  inside : playable (row_at rows i) ≡ true
  inside =
      let mine = given.rows i h in
      and_from _ _
      (lt-ltb (row_at rows i).offset 60000 (omega (arith, mine.0.inside, given.short)))
      (le-leb (row_at rows i).response 4000000000 (omega (arith, mine.1, meets (task_count s) rows j.verdict given.verdict on_time i h, (task_ranges s checked i h).deadline_high)))

  shows : shown s o i (row_at rows i).offset (row_at rows i).response ≡ Some (row_at rows i).response
  shows =
      let a = (row_at rows i).offset in
      let r = (row_at rows i).response in
      let last = (rows_attained s o checked law before rows j given on_time i h).1 in
      seen_last i (lead s o i a + a) r last.0 (answers s o start (worst_course s o i a r)) (Finished i (lead s o i a + a) r) last.1 (tells_itself i (lead s o i a + a) r)

  answered : (got : Result (Option ℕ) Refusal) → Rehearsed s o i (row_at rows i) got → got ≡ Ok (Some (row_at rows i).response)
  answered (Ok got) exact = ap Ok (exact.1 ∙ cond-true (playable (row_at rows i)) _ None inside ∙ shows)
  answered (Err e) exact = absurd (omega (arith, exact.1))

pub as_promised : (s : TaskSet) (o : Order) → Checked s → Lawful s o → (i : ℕ) (row : Row) (got : Result (Option ℕ) Refusal) → Rehearsed s o i row got → AsPromised s o i row got
as_promised s o checked law i row got exact before rows j given on_time h is =
    subst (λ w. got ≡ Ok (Some w.response)) (sym is) (answered s o checked law before rows j given on_time i h got (subst (λ w. Rehearsed s o i w got) is exact))

pub holds_in_runs : (s : TaskSet) (o : Order) → Checked s → Lawful s o → HoldsInRuns s o
holds_in_runs s o checked law before rows j given = (rows_bound s o checked law before rows j given, rows_attained s o checked law before rows j given, verdict_exact s o checked law before rows j given)

-- nothing is played from a row that is out of range
pub exact_none : (s : TaskSet) (o : Order) (i : ℕ) (row : Row) → ToPlay s o i row (Ok None) → Rehearsed s o i row (Ok None)
exact_none s o i row found = (found.0, sym (cond-false (playable row) _ None found.1))

-- and the worst course from one in range
pub exact_along : (s : TaskSet) (o : Order) (i : ℕ) (row : Row) (c : Course) (end : ℕ) → ToPlay s o i row (Ok (Some (c, end))) → (got : Option ℕ)
    → got ≡ seen c.task (c.lead.ticks + c.offset) (answers s o start (course_until s o c.task c.offset end)) → Rehearsed s o i row (Ok got)
exact_along s o i row c end found got saw =
    (found.0, saw ∙ shown_is s o c i row.offset row.response end found.2 found.3 found.4.ticks found.5 ∙ sym (cond-true (playable row) _ None found.1))
