-- From a given judgement to what it promises of every run.
use Rattle.std.proofs.Common.{List, arith}
use Rattle.table.specs.Rules.{TaskSet, Checked, task_count}
use Rattle.policy.specs.Order.{Order}
use Rattle.policy.specs.Laws.{Lawful}
use Rattle.theory.specs.Guarantee.{AdmittedBy, LateBy}
use Rattle.theory.proofs.Guaranteed.{guaranteed}
use Rattle.theory.proofs.MachineFacts.{facts_after}
use Rattle.analysis.specs.Judged.{Given, VerdictOf, row_at}
use Rattle.analysis.specs.Promised.{RowsBound, RowsAttained, VerdictExact, IsLate}
use Rattle.analysis.specs.declared.rows.Row.{Row}
use Rattle.analysis.specs.declared.rows.Judgement.{Judgement}
use Rattle.analysis.specs.declared.rows.Verdict.{Verdict}
use Rattle.analysis.specs.declared.rows.Verdict.TheVariants.{Admitted, Late}

module _ (s : TaskSet) (o : Order) (checked : Checked s) (law : Lawful s o) (before rows : List Row) (j : Judgement) (given : Given s o before rows j) where
  pub rows_bound : RowsBound s o rows
  rows_bound calls w here open_job =
      let known = (facts_after s o checked law calls).known w here in
      (guaranteed s o j.busy_period checked law given.busy given.short).0 calls w (row_at rows w.task).response (row_at rows w.task).offset here open_job (given.rows w.task known).0

  -- the verdict over the rows is the verdict over the worst responses
  pub admitted_by : (v : Verdict) → VerdictOf (task_count s) rows v → (IsLate v → ⊥) → AdmittedBy s o j.busy_period
  admitted_by Admitted all on_time i r a h worst =
      let mine = given.rows i h in
      omega (arith, mine.0.longest a r worst.inside worst.given, all i h, mine.1)
  admitted_by (Late k) late on_time i r a h worst = absurd (on_time tt)

  pub late_by : (v : Verdict) → VerdictOf (task_count s) rows v → IsLate v → LateBy s o j.busy_period
  late_by Admitted all late = absurd late
  late_by (Late k) (here, over, first) late =
      let mine = given.rows k here in
      (k, (row_at rows k).response, (row_at rows k).offset, here, mine.0, omega (arith, mine.1, over))

  pub rows_attained : RowsAttained s o rows j.verdict
  rows_attained on_time i h =
      (guaranteed s o j.busy_period checked law given.busy given.short).1 (admitted_by j.verdict given.verdict on_time) i (row_at rows i).response (row_at rows i).offset h (given.rows i h).0

  pub verdict_exact : VerdictExact s o j.verdict
  verdict_exact =
      let exact = (guaranteed s o j.busy_period checked law given.busy given.short).2 in
      (λ late. exact.0 (late_by j.verdict given.verdict late), λ misses. is_late j.verdict given.verdict (exact.1 misses))
    where
      is_late : (v : Verdict) → VerdictOf (task_count s) rows v → LateBy s o j.busy_period → IsLate v
      is_late (Late k) over late = tt
      is_late Admitted all (i, r, a, h, worst, over) =
          let mine = given.rows i h in
          omega (arith, mine.0.longest a r worst.inside worst.given, all i h, mine.1, over)
