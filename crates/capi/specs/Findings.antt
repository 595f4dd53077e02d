-- A judgement as plain numbers.
use Rattle.std.specs.Prelude.{ℕ, true, false, Ok, Err, Result}
use Rattle.table.specs.Refusals.{refusal_number}
use Rattle.table.specs.declared.refusal.Refusal.{Refusal}
use Rattle.analysis.specs.declared.rows.Judgement.{Judgement}
use Rattle.analysis.specs.declared.rows.Verdict.{Verdict}
use Rattle.analysis.specs.declared.rows.Verdict.TheVariants.{Admitted, Late}
use Rattle.capi.specs.Outcomes.{detail_of}
use Rattle.capi.specs.declared.finding.Finding.{Finding}

abbrev pub found : ℕ → Verdict → Finding
found busy Admitted = record { refusal = 0; late = false; number = busy; task = 0 }
found busy (Late k) = record { refusal = 0; late = true; number = busy; task = k }

abbrev pub finding_of : Result Judgement Refusal → Finding
finding_of (Ok j) = found j.busy_period j.verdict
finding_of (Err why) = record { refusal = refusal_number why; late = false; number = detail_of why; task = 0 }
