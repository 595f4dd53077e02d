-- The text of a small report, letter by letter, and of two refusals.
use Rattle.std.proofs.Common.{◌≡◌, ℕ, List, [], ◌∷◌, ◌++◌, codes, refl}
use Rattle.std.specs.Fmt.{digits}
use Rattle.table.specs.Rules.{TaskSet}
use Rattle.table.specs.declared.kinds.Mode.TheVariants.{Preemptive}
use Rattle.table.specs.declared.kinds.PolicyCode.TheVariants.{Fixed}
use Rattle.table.specs.declared.refusal.Refusal.TheVariants.{TaskRange, NoBusyPeriod}
use Rattle.analysis.specs.declared.rows.Row.{Row}
use Rattle.analysis.specs.declared.rows.Judgement.{Judgement}
use Rattle.analysis.specs.declared.rows.Verdict.TheVariants.{Late}
use Rattle.report.specs.RefusalText.{refusal_text}
use Rattle.report.specs.Text.{report_text, task_lines}

pair : TaskSet
pair = record { policy = Fixed; mode = Preemptive; band = 0; tasks = record { cost = 2; period = 5; deadline = 5; rank = 1; name = codes "METER" } ∷ record { cost = 4; period = 7; deadline = 7; rank = 2; name = codes "LINE" } ∷ [] }

judged : Judgement
judged = record { busy_period = 14; verdict = Late 1 }

rows : List Row
rows = record { response = 2; offset = 0; deadline = 5 } ∷ record { response = 8; offset = 0; deadline = 7 } ∷ []

ended : List ℕ → List ℕ → List ℕ
ended text rest = text ++ (10 ∷ rest)

example : report_text pair judged rows ≡ ended (codes "fixed displacing tasks 2") (ended (codes "stretch 14") (ended (codes "0 METER 2 0 5 meets") (ended (codes "1 LINE 8 0 7 late") (ended (codes "late") []))))
unfolding report_text task_lines digits pair judged rows ended
example = refl

with_place : refusal_text (TaskRange 12) ≡ ended (codes "refused 4 12") []
unfolding digits ended
with_place = refl

without_place : refusal_text NoBusyPeriod ≡ ended (codes "refused 10 -") []
unfolding digits ended
without_place = refl
