-- Two answers to the same bytes are the same text, as the analysis leaves no choice.
use Rattle.std.proofs.Common.{◌≡◌, ℕ, zero, suc, ◌<◌, List, ◌++◌, Ok, Err, sym, refl, ap, ◌∙◌, subst, arith}
use Rattle.table.specs.Rules.{TaskSet, task_count, task_at}
use Rattle.policy.specs.Order.{Order}
use Rattle.theory.specs.BusyPeriod.{BusyPeriod}
use Rattle.theory.specs.Worst.{Worst}
use Rattle.analysis.specs.Judged.{RowOf, VerdictOf, row_at}
use Rattle.analysis.specs.declared.rows.Row.{Row}
use Rattle.analysis.specs.declared.rows.Verdict.{Verdict}
use Rattle.analysis.specs.declared.rows.Verdict.TheVariants.{Admitted, Late}
use Rattle.tablefile.specs.Fields.{Read}
use Rattle.tablefile.specs.Format.{file}
use Rattle.report.specs.Text.{report_text, task_line, task_lines, header_line, stretch_line, verdict_word, verdict_line, followed}
use Rattle.policy.specs.Chosen.{chosen_order}
use Rattle.planning.specs.Answered.{ReportOf, Says, short_output, no_busy_period, reported, Answer, AnswerFrom}

-- the lines of the tasks depend on their rows alone
lines_same : (s : TaskSet) (rows other : List Row) (n : ℕ) → ((i : ℕ) → i < n → row_at rows i ≡ row_at other i) → task_lines s rows n ≡ task_lines s other n
unfolding task_lines
lines_same s rows other zero same = refl
lines_same s rows other (suc n) same =
    ap (λ ls. ls ++ task_line n (task_at s n) (row_at rows n)) (lines_same s rows other n (λ i h. same i (omega arith))) ∙ ap (λ row. task_lines s other n ++ task_line n (task_at s n) row) (same n (omega arith))

-- a late row is late under the same rows
never_both : (rows other : List Row) (n k : ℕ) → ((i : ℕ) → i < n → row_at rows i ≡ row_at other i) → VerdictOf n rows Admitted → VerdictOf n other (Late k) → ⊥
never_both rows other n k same meets (inside, late, first) = omega (arith, meets k inside, late, ap (λ row. row.response) (same k inside), ap (λ row. row.deadline) (same k inside))

verdict_same : (rows other : List Row) (n : ℕ) → ((i : ℕ) → i < n → row_at rows i ≡ row_at other i) → (v w : Verdict) → VerdictOf n rows v → VerdictOf n other w → verdict_word v ≡ verdict_word w
verdict_same rows other n same Admitted Admitted x y = refl
verdict_same rows other n same (Late k) (Late m) x y = refl
verdict_same rows other n same Admitted (Late m) x y = absurd (never_both rows other n m same x y)
verdict_same rows other n same (Late k) Admitted x y = absurd (never_both other rows n k (λ i h. sym (same i h)) y x)

abbrev OneBusy : Type 0
OneBusy = (s : TaskSet) (L M : ℕ) → BusyPeriod s L → BusyPeriod s M → L ≡ M

abbrev OneWorst : Type 0
OneWorst = (s : TaskSet) (o : Order) (L i r a q b : ℕ) → Worst s o L i r a → Worst s o L i q b → (r ≡ q) × (a ≡ b)

module _ (one_busy : OneBusy) (one_worst : OneWorst) where
  row_same : (s : TaskSet) (o : Order) (L i : ℕ) (row other : Row) → RowOf s o L i row → RowOf s o L i other → row ≡ other
  row_same s o L i row other (worst, due) (worst', due') =
      let same = one_worst s o L i row.response row.offset other.response other.offset worst worst' in
      let deadline = due ∙ sym due' in
      λ k. record { response = same.0 k; offset = same.1 k; deadline = deadline k }

  report_same : (s : TaskSet) (o : Order) (text other : List ℕ) → ReportOf s o text → ReportOf s o other → text ≡ other
  unfolding report_text
  report_same s o text other x y =
      let n = task_count s in
      let busy : x.judgement.busy_period ≡ y.judgement.busy_period = one_busy s x.judgement.busy_period y.judgement.busy_period x.judged.busy y.judged.busy in
      let rows : (i : ℕ) → i < n → row_at x.rows i ≡ row_at y.rows i = λ i h. row_same s o y.judgement.busy_period i (row_at x.rows i) (row_at y.rows i) (subst (λ L. RowOf s o L i (row_at x.rows i)) busy (x.judged.rows i h)) (y.judged.rows i h) in
      let lines = lines_same s x.rows y.rows n rows in
      let verdict = verdict_same x.rows y.rows n rows x.judgement.verdict y.judgement.verdict x.judged.verdict y.judged.verdict in
      x.said ∙ ap (λ L. ((header_line s ++ stretch_line L) ++ task_lines s x.rows n) ++ verdict_line x.judgement.verdict) busy ∙ ap (λ ls. ((header_line s ++ stretch_line y.judgement.busy_period) ++ ls) ++ verdict_line x.judgement.verdict) lines ∙ ap (λ word. ((header_line s ++ stretch_line y.judgement.busy_period) ++ task_lines s y.rows n) ++ followed word 10) verdict ∙ sym y.said

  says_same : (s : TaskSet) (room : ℕ) (one other : List ℕ) → Says s room one → Says s room other → one ≡ other
  says_same s room one other (short_output p e) (short_output q f) = e ∙ sym f
  says_same s room one other (short_output p e) (no_busy_period q over f) = absurd (omega arith)
  says_same s room one other (short_output p e) (reported q report) = absurd (omega arith)
  says_same s room one other (no_busy_period p over e) (short_output q f) = absurd (omega arith)
  says_same s room one other (no_busy_period p over e) (no_busy_period q over' f) = e ∙ sym f
  says_same s room one other (no_busy_period p over e) (reported q report) = absurd (over report.judgement.busy_period report.judged.short report.judged.busy)
  says_same s room one other (reported p report) (short_output q f) = absurd (omega arith)
  says_same s room one other (reported p report) (no_busy_period q over f) = absurd (over report.judgement.busy_period report.judged.short report.judged.busy)
  says_same s room one other (reported p report) (reported q report') = report_same s (chosen_order s) one other report report'

  pub one_answer : (input : List ℕ) (room : ℕ) (one other : List ℕ) → Answer input room one → Answer input room other → one ≡ other
  one_answer input room one other = go (file input)
    where
      go : (r : Read TaskSet) → AnswerFrom r room one → AnswerFrom r room other → one ≡ other
      go (Err why) x y = x ∙ sym y
      go (Ok s) x y = says_same s room one other x y
