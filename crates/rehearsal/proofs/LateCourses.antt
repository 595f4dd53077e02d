-- The worst course of a late row of a judgement meets a missed deadline.
use Rattle.std.proofs.Common.{◌≡◌, ℕ, ◌+◌, ◌<◌, ◌≤◌, true, List, Some, None, Ok, Err, Option, Result, refl, ap, subst, arith}
use Rattle.std.proofs.lemmas.Bool.{lt-ltb, le-leb, and_from}
use Rattle.table.specs.Rules.{TaskSet, Checked, task_at, task_count}
use Rattle.table.specs.declared.kinds.Mode.{Mode}
use Rattle.table.specs.declared.kinds.Mode.TheVariants.{NonPreemptive, Preemptive}
use Rattle.table.specs.declared.refusal.Refusal.{Refusal}
use Rattle.table.proofs.Ranges.{task_ranges}
use Rattle.policy.specs.Order.{Order}
use Rattle.policy.specs.Laws.{Lawful}
use Rattle.theory.specs.BusyPeriod.{BusyPeriod}
use Rattle.theory.specs.Course.{lead}
use Rattle.theory.specs.Response.{ResponseIn}
use Rattle.theory.proofs.Existence.{finish_exists, start_exists}
use Rattle.theory.proofs.Late.{late_overdue}
use Rattle.analysis.specs.Judged.{Given, row_at}
use Rattle.analysis.specs.declared.rows.Row.{Row}
use Rattle.analysis.specs.declared.rows.Judgement.{Judgement}
use Rattle.rehearsal.specs.FirstMiss.{MissedFirst, Sought, LateSeen}
use Rattle.rehearsal.specs.Rehearsed.{playable}
use Rattle.rehearsal.specs.declared.misses.Miss.{Miss}

-- a response inside the busy period is at most that and C
response_high : (m : Mode) (s : TaskSet) (o : Order) (L i a r : ℕ) → Checked s → Lawful s o → BusyPeriod s L → i < task_count s → a < L → ResponseIn m s o i a r → r ≤ L + (task_at s i).cost
response_high Preemptive s o L i a r checked law busy h lt (F, sol, e) =
    let some = finish_exists s o checked law i a h L busy lt in
    omega (arith, e, some.2, sol.least some.0 some.1.from some.1.solves)
response_high NonPreemptive s o L i a r checked law busy h lt (G, sol, e) =
    let some = start_exists s o checked law i a h L busy lt in
    omega (arith, e, some.2, sol.least some.0 some.1.from some.1.solves)

module _ (s : TaskSet) (o : Order) (checked : Checked s) (law : Lawful s o) (before rows : List Row) (j : Judgement) (given : Given s o before rows j) (i : ℕ) (h : i < task_count s) (late : (row_at rows i).deadline < (row_at rows i).response) where
  inside : playable (row_at rows i) ≡ true
  inside =
      let mine = (given.rows i h).0 in
      and_from _ _
      (lt-ltb (row_at rows i).offset 60000 (omega (arith, mine.inside, given.short)))
      (le-leb (row_at rows i).response 4000000000 (omega (arith, given.short, (task_ranges s checked i h).cost_high, response_high s.mode s o j.busy_period i (row_at rows i).offset (row_at rows i).response checked law given.busy h mine.inside mine.given)))

  found : (got : Option Miss) → MissedFirst s o i (row_at rows i).offset (lead s o i (row_at rows i).offset + (row_at rows i).offset + (row_at rows i).response) got → (m : Miss) × (got ≡ Some m)
  found (Some m) first = (m, refl)
  found None none =
      let mine = given.rows i h in
      let met = late_overdue s o j.busy_period checked law given.busy given.short i (row_at rows i).response (row_at rows i).offset h mine.0 (omega (arith, mine.1, late)) in
      absurd (none met.0 (omega (arith, met.1, mine.1, late)) met.2)

  answered : (got : Result (Option Miss) Refusal) → Sought s o i (row_at rows i) got → (m : Miss) × (got ≡ Ok (Some m))
  answered (Ok got) sought = let first = found got (sought.1 inside) in (first.0, ap Ok first.1)
  answered (Err e) sought = absurd (omega (arith, sought.1))

pub late_seen : (s : TaskSet) (o : Order) → Checked s → Lawful s o → (i : ℕ) (row : Row) (got : Result (Option Miss) Refusal) → Sought s o i row got → LateSeen s o i row got
late_seen s o checked law i row got sought before rows j given h is late =
    answered s o checked law before rows j given i h (subst (λ (w : Row). w.deadline < w.response) is late) got (subst (λ w. Sought s o i w got) is sought)
