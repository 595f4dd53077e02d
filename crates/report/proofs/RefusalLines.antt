-- How long the line of a refusal is.
use Rattle.std.proofs.Common.{◌≡◌, ℕ, ◌+◌, ◌≤◌, List, [], ◌∷◌, length, codes, decimal, arith, lit<, lit≤, length-append}
use Rattle.std.proofs.lemmas.Fmt.{length-decimal-le}
use Rattle.table.specs.Refusals.{refusal_number}
use Rattle.table.specs.declared.refusal.Refusal.{Refusal}
use Rattle.table.specs.declared.refusal.Refusal.TheVariants.{Ended, WrongMark, HeaderRange, TaskRange, RankTaken, NameByte, Trailing, FewRows, ShortOutput, NoBusyPeriod, RankUnfilled, NoTaskToJudge, NoTaskToRun, TooSoon, QueueFull, TimeOver}
use Rattle.report.specs.Text.{followed, line}

pub line_length : (number place : List ℕ) → length (line (codes "refused" ∷ number ∷ place ∷ [])) ≡ length number + length place + 10
line_length number place = omega (arith, length-append (followed (codes "refused") 32) (line (number ∷ place ∷ [])), length-append (followed number 32) (followed place 10), length-append number (32 ∷ []), length-append place (10 ∷ []))

few_numbers : (refusal : Refusal) → refusal_number refusal ≤ 15
few_numbers (Ended p) = lit≤ tt
few_numbers (WrongMark p) = lit≤ tt
few_numbers (HeaderRange p) = lit≤ tt
few_numbers (TaskRange p) = lit≤ tt
few_numbers (RankTaken p) = lit≤ tt
few_numbers (NameByte p) = lit≤ tt
few_numbers (Trailing p) = lit≤ tt
few_numbers FewRows = lit≤ tt
few_numbers ShortOutput = lit≤ tt
few_numbers NoBusyPeriod = lit≤ tt
few_numbers (RankUnfilled k) = lit≤ tt
few_numbers (NoTaskToJudge j) = lit≤ tt
few_numbers (NoTaskToRun j) = lit≤ tt
few_numbers (TooSoon j) = lit≤ tt
few_numbers (QueueFull j) = lit≤ tt
few_numbers TimeOver = lit≤ tt

pub number_length : (refusal : Refusal) → length (decimal (refusal_number refusal)) ≤ 2
number_length refusal = let small = few_numbers refusal in length-decimal-le 2 (refusal_number refusal) (lit< tt) (omega arith) (omega arith)
