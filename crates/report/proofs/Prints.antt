-- From a judgement and the text that was put to what a report promises.
use Rattle.std.proofs.Common.{◌≡◌, ℕ, ◌+◌, ◌<◌, ◌≤◌, List, ◌++◌, length, drop, sym, ap, ◌∙◌, arith}
use Rattle.table.specs.Rules.{TaskSet, Checked, task_count}
use Rattle.table.proofs.Ranges.{task_ranges}
use Rattle.policy.specs.Laws.{Lawful}
use Rattle.policy.specs.Order.{Order}
use Rattle.analysis.specs.Judged.{Given, row_at}
use Rattle.analysis.specs.declared.rows.Row.{Row}
use Rattle.analysis.specs.declared.rows.Judgement.{Judgement}
use Rattle.report.specs.Pasted.{Appended}
use Rattle.report.specs.Reported.{Printed, output_bytes, longest_report}
use Rattle.report.specs.Text.{report_text}
use Rattle.report.proofs.Bounded.{worst_below}
use Rattle.report.proofs.Lengths.{Short, text_length}

module _ (s : TaskSet) (o : Order) (rows rows' : List Row) (j : Judgement) (checked : Checked s) (law : Lawful s o) (judged : Given s o rows rows' j) where
  short_row : (i : ℕ) → i < task_count s → Short (row_at rows' i)
  short_row i h =
      let row = judged.rows i h in
      record {
        response = omega (arith, worst_below s o checked law j.busy_period i (row_at rows' i).response (row_at rows' i).offset h judged.busy row.0, judged.short, (task_ranges s checked i h).cost_high);
        offset = omega (arith, row.0.inside, judged.short);
        deadline = omega (arith, row.1, (task_ranges s checked i h).deadline_high);
      }

  text_short : length (report_text s j rows') ≤ longest_report
  text_short = text_length s j rows' checked (omega (arith, judged.short)) short_row

  pub printed : {out out' : List ℕ} {len : ℕ} → output_bytes ≤ length out → Appended out 0 (report_text s j rows') out' len → Printed s o rows rows' out out' len
  printed {out} {out'} {len} room put =
      let text = report_text s j rows' in
      let done = put.done (omega (arith, text_short)) in
      let end : 0 + length text ≡ len = sym done.1 in
      record { judgement = j; judged = judged; room = room; text = done.0 ∙ ap (λ n. text ++ drop n out) end; long = omega (arith, done.1) }

pub printed_short : {s : TaskSet} {o : Order} {rows rows' : List Row} {out out' : List ℕ} {len : ℕ} → Checked s → Lawful s o → Printed s o rows rows' out out' len → len ≤ longest_report
printed_short {s} {o} {rows} {rows'} {out} {out'} {len} checked law done = omega (arith, done.long, text_short s o rows rows' done.judgement checked law done.judged)
