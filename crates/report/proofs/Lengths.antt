-- A report of numbers of at most five digits has at most 916 bytes.
use Rattle.std.proofs.Common.{◌≡◌, ℕ, zero, suc, ◌+◌, ◌*◌, ◌<◌, ◌≤◌, Bool, true, false, cond, ltb, List, [], ◌∷◌, ◌++◌, length, codes, decimal, arith, lit<, lit≤, length-append}
use Rattle.std.proofs.lemmas.Fmt.{length-decimal-le}
use Rattle.std.proofs.lemmas.Bool.Decides.{nat_tests}
use Rattle.table.specs.Rules.{TaskSet, Checked, task_at, task_count}
use Rattle.table.specs.Sporadic.{Sporadic, name_in_range, name_byte, within, every}
use Rattle.table.specs.Words.{mode_word, policy_word}
use Rattle.table.specs.declared.kinds.Mode.{Mode}
use Rattle.table.specs.declared.kinds.Mode.TheVariants.{NonPreemptive, Preemptive}
use Rattle.table.specs.declared.kinds.PolicyCode.{PolicyCode}
use Rattle.table.specs.declared.kinds.PolicyCode.TheVariants.{Fixed, Deadline, Arrival, Bands}
use Rattle.table.proofs.Every.{and_left}
use Rattle.table.proofs.Ranges.{count_ranges, task_ranges}
use Rattle.analysis.specs.Judged.{row_at}
use Rattle.analysis.specs.declared.rows.Row.{Row}
use Rattle.analysis.specs.declared.rows.Judgement.{Judgement}
use Rattle.analysis.specs.declared.rows.Verdict.{Verdict}
use Rattle.analysis.specs.declared.rows.Verdict.TheVariants.{Admitted, Late}
use Rattle.report.specs.Text.{followed, header_line, stretch_line, row_word, task_line, task_lines, verdict_word, verdict_line, report_text}

-- every number of the row has at most five digits
pub record Short (row : Row) : Type 0 where
  pub response : row.response < 100000
  pub offset : row.offset < 100000
  pub deadline : row.deadline < 100000

word_length : (word : List ℕ) (byte n : ℕ) → length word ≤ n → length (followed word byte) ≤ n + 1
word_length word byte n h = omega (arith, length-append word (byte ∷ []))

both_lengths : (xs ys : List ℕ) (m n : ℕ) → length xs ≤ m → length ys ≤ n → length (xs ++ ys) ≤ m + n
both_lengths xs ys m n p q = omega (arith, length-append xs ys)

five_digits : (n : ℕ) → n < 100000 → length (decimal n) ≤ 5
five_digits n h = length-decimal-le 5 n (lit< tt) h (omega arith)

two_digits : (n : ℕ) → n < 100 → length (decimal n) ≤ 2
two_digits n h = length-decimal-le 2 n (lit< tt) h (omega arith)

policy_length : (p : PolicyCode) → length (policy_word p) ≤ 8
policy_length Fixed = lit≤ tt
policy_length Deadline = lit≤ tt
policy_length Arrival = lit≤ tt
policy_length Bands = lit≤ tt

mode_length : (m : Mode) → length (mode_word m) ≤ 10
mode_length NonPreemptive = lit≤ tt
mode_length Preemptive = lit≤ tt

verdict_length : (v : Verdict) → length (verdict_word v) ≤ 8
verdict_length Admitted = lit≤ tt
verdict_length (Late k) = lit≤ tt

row_word_length : (row : Row) → length (row_word row) ≤ 5
row_word_length row = go (ltb row.deadline row.response)
  where
    go : (late : Bool) → length (cond late (codes "late") (codes "meets")) ≤ 5
    go true = lit≤ tt
    go false = lit≤ tt

name_length : (name : List ℕ) → name_in_range name ≡ true → length name ≤ 8
name_length name h =
    let inside : within 1 8 (length name) ≡ true = and_left (within 1 8 (length name)) (every name_byte name) h in
    grind (arith, nat_tests)

header_length : (s : TaskSet) → Checked s → length (header_line s) ≤ 29
header_length s checked =
    let few : task_count s < 100 = omega (arith, count_ranges s checked) in
    both_lengths (followed (policy_word s.policy) 32) _ 9 20 (word_length (policy_word s.policy) 32 8 (policy_length s.policy))
    (both_lengths (followed (mode_word s.mode) 32) _ 11 9 (word_length (mode_word s.mode) 32 10 (mode_length s.mode))
    (both_lengths (followed (codes "tasks") 32) _ 6 3 (lit≤ tt) (word_length (decimal (task_count s)) 10 2 (two_digits (task_count s) few))))

stretch_length : (busy : ℕ) → busy < 100000 → length (stretch_line busy) ≤ 14
stretch_length busy h = both_lengths (followed (codes "stretch") 32) _ 8 6 (lit≤ tt) (word_length (decimal busy) 10 5 (five_digits busy h))

task_length : (i : ℕ) (t : Sporadic) (row : Row) → i < 100 → name_in_range t.name ≡ true → Short row → length (task_line i t row) ≤ 36
task_length i t row low good short =
    both_lengths (followed (decimal i) 32) _ 3 33 (word_length (decimal i) 32 2 (two_digits i low))
    (both_lengths (followed t.name 32) _ 9 24 (word_length t.name 32 8 (name_length t.name good))
    (both_lengths (followed (decimal row.response) 32) _ 6 18 (word_length (decimal row.response) 32 5 (five_digits row.response short.response))
    (both_lengths (followed (decimal row.offset) 32) _ 6 12 (word_length (decimal row.offset) 32 5 (five_digits row.offset short.offset))
    (both_lengths (followed (decimal row.deadline) 32) _ 6 6 (word_length (decimal row.deadline) 32 5 (five_digits row.deadline short.deadline))
    (word_length (row_word row) 10 5 (row_word_length row))))))

tasks_length : (s : TaskSet) (rows : List Row) → Checked s → ((i : ℕ) → i < task_count s → Short (row_at rows i)) → (n : ℕ) → n ≤ task_count s → length (task_lines s rows n) ≤ n * 36
unfolding task_lines
tasks_length s rows checked short zero h = lit≤ tt
tasks_length s rows checked short (suc n) h =
    let few : n < 100 = omega (arith, count_ranges s checked) in
    let more : length (task_lines s rows n ++ task_line n (task_at s n) (row_at rows n)) ≤ n * 36 + 36 = both_lengths (task_lines s rows n) _ (n * 36) 36 (tasks_length s rows checked short n (omega arith)) (task_length n (task_at s n) (row_at rows n) few (task_ranges s checked n h).name_good (short n h)) in
    omega arith

pub text_length : (s : TaskSet) (j : Judgement) (rows : List Row) → Checked s → j.busy_period < 100000 → ((i : ℕ) → i < task_count s → Short (row_at rows i)) → length (report_text s j rows) ≤ 916
unfolding report_text
text_length s j rows checked busy short =
    let n = task_count s in
    let few : n ≤ 24 = (count_ranges s checked).1 in
    let lines : length (task_lines s rows n) ≤ 864 = omega (arith, tasks_length s rows checked short n (omega arith)) in
    both_lengths _ (verdict_line j.verdict) 907 9
    (both_lengths _ (task_lines s rows n) 43 864
    (both_lengths (header_line s) (stretch_line j.busy_period) 29 14 (header_length s checked) (stretch_length j.busy_period busy))
    lines)
    (word_length (verdict_word j.verdict) 10 8 (verdict_length j.verdict))
