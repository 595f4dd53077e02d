-- The planner's whole answer to any bytes: the report of the table that they say, or one line that tells the refusal.
use Rattle.std.specs.Prelude.{◌≡◌, ℕ, ◌<◌, ◌≤◌, List, length, Ok, Err, Result}
use Rattle.table.specs.Rules.{TaskSet}
use Rattle.table.specs.declared.refusal.Refusal.{Refusal}
use Rattle.table.specs.declared.refusal.Refusal.TheVariants.{ShortOutput, NoBusyPeriod}
use Rattle.policy.specs.Order.{Order}
use Rattle.theory.specs.BusyPeriod.{Overloaded}
use Rattle.analysis.specs.Judged.{Given}
use Rattle.analysis.specs.declared.rows.Row.{Row}
use Rattle.analysis.specs.declared.rows.Judgement.{Judgement}
use Rattle.tablefile.specs.Fields.{Read}
use Rattle.tablefile.specs.Format.{file}
use Rattle.report.specs.Pasted.{Put}
use Rattle.report.specs.RefusalText.{refusal_text, refusal_bytes}
use Rattle.report.specs.Reported.{output_bytes, longest_report}
use Rattle.report.specs.Text.{report_text}
use Rattle.policy.specs.Chosen.{chosen_order}

-- the report of a task set under an order
pub record ReportOf (s : TaskSet) (o : Order) (text : List ℕ) : Type 0 where
  pub rows : List Row
  pub judgement : Judgement
  pub judged : Given s o rows rows judgement
  pub said : text ≡ report_text s judgement rows

-- what is said of a table, where so many output bytes are lent
pub data Says (s : TaskSet) (room : ℕ) (text : List ℕ) : Type 0 where
  short_output : room < output_bytes → text ≡ refusal_text ShortOutput → Says s room text
  no_busy_period : output_bytes ≤ room → Overloaded s → text ≡ refusal_text NoBusyPeriod → Says s room text
  reported : output_bytes ≤ room → ReportOf s (chosen_order s) text → Says s room text

abbrev pub AnswerFrom : Read TaskSet → ℕ → List ℕ → Type 0
AnswerFrom (Err why) room text = text ≡ refusal_text why
AnswerFrom (Ok s) room text = Says s room text

-- the text is the answer to these bytes
abbrev pub Answer : List ℕ → ℕ → List ℕ → Type 0
Answer input room text = AnswerFrom (file input) room text

-- what telling adds to an output as a plan left it: nothing to a report, the line of a refusal otherwise
abbrev pub Told : Result ℕ Refusal → List ℕ → List ℕ → ℕ → Type 0
Told (Ok len) out out' answer = (answer ≡ len) × (out' ≡ out)
Told (Err why) out out' answer = Put out 0 (refusal_text why) out' answer × (length (refusal_text why) ≤ refusal_bytes)

-- what the call leaves and answers: the whole text at the start of the output and its length; no text is longer than a report
pub record Answered (input out out' : List ℕ) (len : ℕ) : Type 0 where
  pub text : List ℕ
  pub answer : Answer input (length out) text
  pub short : length text ≤ longest_report
  pub put : Put out 0 text out' len
