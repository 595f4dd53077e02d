-- Every refusal has a number and a layer; with some go a place in the input, a rank or a task number.
use Rattle.std.specs.Prelude.{ℕ, Some, None, Option}
use Rattle.table.specs.declared.refusal.Layer.{Layer}
use Rattle.table.specs.declared.refusal.Layer.TheVariants.{Reading, Judging, Running}
use Rattle.table.specs.declared.refusal.Refusal.{Refusal}
use Rattle.table.specs.declared.refusal.Refusal.TheVariants.{Ended, WrongMark, HeaderRange, TaskRange, RankTaken, NameByte, Trailing, FewRows, ShortOutput, NoBusyPeriod, RankUnfilled, NoTaskToJudge, NoTaskToRun, TooSoon, QueueFull, TimeOver}

abbrev pub refusal_number : Refusal → ℕ
refusal_number (Ended p) = 1
refusal_number (WrongMark p) = 2
refusal_number (HeaderRange p) = 3
refusal_number (TaskRange p) = 4
refusal_number (RankTaken p) = 5
refusal_number (NameByte p) = 6
refusal_number (Trailing p) = 7
refusal_number FewRows = 8
refusal_number ShortOutput = 9
refusal_number NoBusyPeriod = 10
refusal_number (RankUnfilled k) = 11
refusal_number (NoTaskToJudge j) = 12
refusal_number (NoTaskToRun j) = 12
refusal_number (TooSoon j) = 13
refusal_number (QueueFull j) = 14
refusal_number TimeOver = 15

abbrev pub refusal_layer : Refusal → Layer
refusal_layer (Ended p) = Reading
refusal_layer (WrongMark p) = Reading
refusal_layer (HeaderRange p) = Reading
refusal_layer (TaskRange p) = Reading
refusal_layer (RankTaken p) = Reading
refusal_layer (NameByte p) = Reading
refusal_layer (Trailing p) = Reading
refusal_layer FewRows = Judging
refusal_layer ShortOutput = Judging
refusal_layer NoBusyPeriod = Judging
refusal_layer (RankUnfilled k) = Judging
refusal_layer (NoTaskToJudge j) = Judging
refusal_layer (NoTaskToRun j) = Running
refusal_layer (TooSoon j) = Running
refusal_layer (QueueFull j) = Running
refusal_layer TimeOver = Running

-- where reading stopped
abbrev pub refusal_place : Refusal → Option ℕ
refusal_place (Ended p) = Some p
refusal_place (WrongMark p) = Some p
refusal_place (HeaderRange p) = Some p
refusal_place (TaskRange p) = Some p
refusal_place (RankTaken p) = Some p
refusal_place (NameByte p) = Some p
refusal_place (Trailing p) = Some p
refusal_place FewRows = None
refusal_place ShortOutput = None
refusal_place NoBusyPeriod = None
refusal_place (RankUnfilled k) = None
refusal_place (NoTaskToJudge j) = None
refusal_place (NoTaskToRun j) = None
refusal_place (TooSoon j) = None
refusal_place (QueueFull j) = None
refusal_place TimeOver = None

-- the rank that could not be filled
abbrev pub refusal_rank : Refusal → Option ℕ
refusal_rank (Ended p) = None
refusal_rank (WrongMark p) = None
refusal_rank (HeaderRange p) = None
refusal_rank (TaskRange p) = None
refusal_rank (RankTaken p) = None
refusal_rank (NameByte p) = None
refusal_rank (Trailing p) = None
refusal_rank FewRows = None
refusal_rank ShortOutput = None
refusal_rank NoBusyPeriod = None
refusal_rank (RankUnfilled k) = Some k
refusal_rank (NoTaskToJudge j) = None
refusal_rank (NoTaskToRun j) = None
refusal_rank (TooSoon j) = None
refusal_rank (QueueFull j) = None
refusal_rank TimeOver = None

-- the task number given
abbrev pub refusal_task : Refusal → Option ℕ
refusal_task (Ended p) = None
refusal_task (WrongMark p) = None
refusal_task (HeaderRange p) = None
refusal_task (TaskRange p) = None
refusal_task (RankTaken p) = None
refusal_task (NameByte p) = None
refusal_task (Trailing p) = None
refusal_task FewRows = None
refusal_task ShortOutput = None
refusal_task NoBusyPeriod = None
refusal_task (RankUnfilled k) = None
refusal_task (NoTaskToJudge j) = Some j
refusal_task (NoTaskToRun j) = Some j
refusal_task (TooSoon j) = Some j
refusal_task (QueueFull j) = Some j
refusal_task TimeOver = None
