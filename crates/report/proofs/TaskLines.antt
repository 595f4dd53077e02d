-- The lines of the tasks, one after another, along a loop over the tasks with their rows.
use Rattle.std.proofs.Common.{◌≡◌, ℕ, ◌+◌, ◌<◌, ◌≤◌, List, [], map, length, get_or, sym, ap, ◌∙◌, subst, zero-add, add-one, arith}
use lib.ListN.{length-map}
use Rattle.std.specs.List.{enumerate_from, zip}
use Rattle.std.proofs.lemmas.List.{get_or_default, get_or-map}
use Rattle.std.proofs.lemmas.List.FromFn.{length-enumerate_from, get_or-enumerate_from}
use Rattle.std.proofs.lemmas.Slice.Zip.{length-zip, get_or-zip}
use Rattle.table.specs.Content.{sporadic}
use Rattle.table.specs.Rules.{TaskSet, task_at, task_count}
use Rattle.table.specs.declared.task.Task.{Task}
use Rattle.analysis.specs.Judged.{no_row, row_at}
use Rattle.analysis.specs.declared.rows.Row.{Row}
use Rattle.report.specs.Text.{task_line, task_lines}
use Rattle.report.specs.Written.{Written}
use Rattle.report.specs.declared.page.Page.{Page}
use Rattle.report.proofs.Pages.{then}

-- what the loop goes over: each task with its number and its row
abbrev pub numbered : List Task → List Row → List (ℕ × (Task × Row))
numbered ts rows = enumerate_from 0 (zip ts rows)

module _ (s : TaskSet) (ts : List Task) (told : map sporadic ts ≡ s.tasks) (rows : List Row) where
  as_many : length ts ≡ task_count s
  as_many = sym (length-map ts sporadic) ∙ ap length told

  pub all : task_count s ≤ length rows → length (numbered ts rows) ≡ task_count s
  all enough = omega (arith, length-enumerate_from 0 (zip ts rows), length-zip ts rows, as_many)

  -- the task that a turn has read
  read_task : (i : ℕ) (x : Task) → i < length ts → x ≡ get_or ts i x → sporadic x ≡ task_at s i
  read_task i x here read = ap sporadic read ∙ sym (get_or-map sporadic ts i x _ here) ∙ ap (λ us. get_or us i (record { cost = 1; period = 1; deadline = 1; rank = 1; name = [] })) told

  pub next_line : {before mid after : Page} (i n : ℕ) (t : Task) (row : Row) → i < length (numbered ts rows) → (let x : ℕ × (Task × Row) = (n, (t, row)) in x ≡ get_or (numbered ts rows) i x) → Written before (task_lines s rows i) mid → Written mid (task_line n (sporadic t) row) after → Written before (task_lines s rows (i + 1)) after
  unfolding task_lines
  next_line {before} {mid} {after} i n t row here read lines one =
      let x : ℕ × (Task × Row) = (n, (t, no_row)) in
      let short : i < length (zip ts rows) = omega (arith, length-enumerate_from 0 (zip ts rows)) in
      let low : i < length ts = omega (arith, length-zip ts rows) in
      let high : i < length rows = omega (arith, length-zip ts rows) in
      let same = read ∙ get_or_default (numbered ts rows) i _ x here ∙ get_or-enumerate_from 0 (zip ts rows) i x short ∙ ap {B = ℕ × (Task × Row)} (λ p. (0 + i, p)) (get_or-zip ts rows i x.1 low high) in
      let number : n ≡ i = ap (λ p. p.0) same ∙ zero-add i in
      let task : sporadic t ≡ task_at s i = read_task i t low (ap (λ p. p.1.0) same) in
      let told_row : row ≡ row_at rows i = ap (λ p. p.1.1) same in
      rw add-one (then lines (subst (λ k. Written mid (task_line k (task_at s i) (row_at rows i)) after) number (subst (λ u. Written mid (task_line n u (row_at rows i)) after) task (subst (λ r. Written mid (task_line n (sporadic t) r) after) told_row one))))
