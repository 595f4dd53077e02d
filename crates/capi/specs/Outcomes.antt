-- A result as two numbers: that of the refusal, or 0, and the answer or what goes with the refusal.
use Rattle.std.specs.Prelude.{ℕ, Ok, Err, Result}
use Rattle.table.specs.Refusals.{refusal_number}
use Rattle.table.specs.declared.refusal.Refusal.{Refusal}
use Rattle.table.specs.declared.refusal.Refusal.TheVariants.{Ended, WrongMark, HeaderRange, TaskRange, RankTaken, NameByte, Trailing, FewRows, ShortOutput, NoBusyPeriod, RankUnfilled, NoTaskToJudge, NoTaskToRun, TooSoon, QueueFull, TimeOver}
use Rattle.capi.specs.declared.outcome.Outcome.{Outcome}

-- the place, the rank or the task; 0 where none goes with it
abbrev pub detail_of : Refusal → ℕ
detail_of (Ended p) = p
detail_of (WrongMark p) = p
detail_of (HeaderRange p) = p
detail_of (TaskRange p) = p
detail_of (RankTaken p) = p
detail_of (NameByte p) = p
detail_of (Trailing p) = p
detail_of FewRows = 0
detail_of ShortOutput = 0
detail_of NoBusyPeriod = 0
detail_of (RankUnfilled k) = k
detail_of (NoTaskToJudge j) = j
detail_of (NoTaskToRun j) = j
detail_of (TooSoon j) = j
detail_of (QueueFull j) = j
detail_of TimeOver = 0

abbrev pub outcome_of : Result ℕ Refusal → Outcome
outcome_of (Ok n) = record { refusal = 0; number = n }
outcome_of (Err why) = record { refusal = refusal_number why; number = detail_of why }
