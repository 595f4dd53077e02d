-- What a report answers and writes, for every table, order, list of rows and output that it is lent.
use Rattle.std.specs.Prelude.{◌≡◌, ℕ, ◌<◌, ◌≤◌, ◌⊎◌, List, ◌++◌, length, drop, Ok, Err, Result}
use Rattle.table.specs.Rules.{TaskSet, task_count}
use Rattle.table.specs.declared.refusal.Refusal.{Refusal}
use Rattle.table.specs.declared.refusal.Refusal.TheVariants.{FewRows, ShortOutput, NoBusyPeriod}
use Rattle.policy.specs.Order.{Order}
use Rattle.theory.specs.BusyPeriod.{Overloaded}
use Rattle.analysis.specs.Judged.{Given}
use Rattle.analysis.specs.declared.rows.Row.{Row}
use Rattle.analysis.specs.declared.rows.Judgement.{Judgement}
use Rattle.report.specs.Text.{report_text}

-- the least output that a report is lent
abbrev pub output_bytes : ℕ
output_bytes = 1024

-- no report is longer
abbrev pub longest_report : ℕ
longest_report = 916

-- a report that is written: the rows are the judgement's, and its text stands at the front of the output, with the rest as it was
pub record Printed (s : TaskSet) (o : Order) (rows rows' : List Row) (out out' : List ℕ) (len : ℕ) : Type 0 where
  pub judgement : Judgement
  pub judged : Given s o rows rows' judgement
  pub room : output_bytes ≤ length out
  pub text : out' ≡ report_text s judgement rows' ++ drop len out
  pub long : len ≡ length (report_text s judgement rows')

-- why a report is refused, in the order of checking
abbrev pub RefusedFor : TaskSet → List Row → List ℕ → Refusal → Type 0
RefusedFor s rows out e = ((e ≡ FewRows) × (length rows < task_count s)) ⊎ (((e ≡ ShortOutput) × (task_count s ≤ length rows) × (length out < output_bytes)) ⊎ ((e ≡ NoBusyPeriod) × (task_count s ≤ length rows) × (output_bytes ≤ length out) × Overloaded s))

-- a refusal leaves rows and output as they were
abbrev pub Reported : TaskSet → Order → List Row → List Row → List ℕ → List ℕ → Result ℕ Refusal → Type 0
Reported s o rows rows' out out' (Ok len) = Printed s o rows rows' out out' len
Reported s o rows rows' out out' (Err e) = (rows' ≡ rows) × (out' ≡ out) × RefusedFor s rows out e
