-- The text of a report, line by line: policy and mode, the busy period ("stretch"), one line for each task, and the verdict.
use Rattle.std.specs.Prelude.{ℕ, zero, suc, cond, List, [], ◌∷◌, ◌++◌, codes, decimal, nat_lt}
use Rattle.table.specs.Rules.{TaskSet, task_at, task_count}
use Rattle.table.specs.Sporadic.{Sporadic}
use Rattle.table.specs.Words.{mode_word, policy_word}
use Rattle.analysis.specs.Judged.{row_at}
use Rattle.analysis.specs.Shown.{verdict_text}
use Rattle.analysis.specs.declared.rows.Row.{Row}
use Rattle.analysis.specs.declared.rows.Judgement.{Judgement}
use Rattle.analysis.specs.declared.rows.Verdict.{Verdict}

-- a word with the space or the line end behind it
abbrev pub followed : List ℕ → ℕ → List ℕ
followed word byte = word ++ (byte ∷ [])

-- a line: words with a space between them, and 0A at the end
abbrev pub line : List (List ℕ) → List ℕ
line [] = []
line (word ∷ []) = followed word 10
line (word ∷ next ∷ words) = followed word 32 ++ line (next ∷ words)

abbrev pub header_line : TaskSet → List ℕ
header_line s = line (policy_word s.policy ∷ mode_word s.mode ∷ codes "tasks" ∷ decimal (task_count s) ∷ [])

abbrev pub stretch_line : ℕ → List ℕ
stretch_line busy = line (codes "stretch" ∷ decimal busy ∷ [])

-- a task is late exactly when its response exceeds its deadline
abbrev pub row_word : Row → List ℕ
row_word row = cond (nat_lt row.deadline row.response) (codes "late") (codes "meets")

abbrev pub task_line : ℕ → Sporadic → Row → List ℕ
task_line i t row = line (decimal i ∷ t.name ∷ decimal row.response ∷ decimal row.offset ∷ decimal row.deadline ∷ row_word row ∷ [])

-- the lines of the tasks numbered below n
unfoldable pub task_lines : TaskSet → List Row → ℕ → List ℕ
task_lines s rows zero = []
task_lines s rows (suc n) = task_lines s rows n ++ task_line n (task_at s n) (row_at rows n)

abbrev pub verdict_word : Verdict → List ℕ
verdict_word = verdict_text

abbrev pub verdict_line : Verdict → List ℕ
verdict_line v = line (verdict_word v ∷ [])

unfoldable pub report_text : TaskSet → Judgement → List Row → List ℕ
report_text s j rows = ((header_line s ++ stretch_line j.busy_period) ++ task_lines s rows (task_count s)) ++ verdict_line j.verdict
