-- From what a plan left and answered to the planner's whole answer.
use Rattle.std.proofs.Common.{◌≡◌, ℕ, ◌<◌, ◌≤◌, List, ◌++◌, length, get_or, drop, Ok, Err, Result, sym, refl, ap, ◌∙◌, subst, inl, inr, zero-add, arith}
use Rattle.table.specs.Rules.{TaskSet, task_count}
use Rattle.table.specs.declared.refusal.Refusal.{Refusal}
use Rattle.table.proofs.Ranges.{count_ranges}
use Rattle.policy.specs.Order.{Order}
use Rattle.analysis.specs.Judged.{Given}
use Rattle.analysis.specs.declared.rows.Row.{Row}
use Rattle.analysis.specs.declared.rows.Judgement.{Judgement}
use Rattle.tablefile.specs.Fields.{Read}
use Rattle.tablefile.specs.Format.{file}
use Rattle.tablefile.proofs.Files.{file_read}
use Rattle.tablefile.proofs.Inversion.{no_value}
use Rattle.report.specs.Pasted.{Put}
use Rattle.report.specs.RefusalText.{refusal_text, refusal_bytes}
use Rattle.report.specs.Reported.{RefusedFor}
use Rattle.report.specs.Text.{report_text}
use Rattle.report.proofs.Pastes.{put_fits}
use Rattle.report.proofs.Prints.{printed_short}
use Rattle.policy.specs.Shipped.{chosen_lawful}
use Rattle.planning.specs.Planned.{Planned, PlannedFrom}
use Rattle.planning.specs.Answered.{Told, Says, short_output, no_busy_period, reported, AnswerFrom, Answered}

-- rows that a judgement wrote are the judgement's whatever stood there before
judged_again : {s : TaskSet} {o : Order} {rows rows' : List Row} {j : Judgement} → length rows' ≡ length rows → Given s o rows rows' j → Given s o rows' rows' j
judged_again long given = record { enough = omega (arith, given.enough); short = given.short; busy = given.busy; rows = given.rows; rest = refl; verdict = given.verdict }

same_refusal : {why e : Refusal} → (let bad : Read ℕ = Err why in bad ≡ Err e) → why ≡ e
same_refusal same = cc

module _ (input : List ℕ) (fit : (i : ℕ) → get_or input i 0 < 256) (rows rows' : List Row) (room : length rows ≡ 24) (long : length rows' ≡ length rows) (out : List ℕ) where
  report_answered : (out' : List ℕ) (len : ℕ) → Planned input rows rows' out out' (Ok len) → Answered input out out' len
  report_answered out' len planned = go (file input) refl planned
    where
      go : (r : Read TaskSet) → file input ≡ r → PlannedFrom r rows rows' out out' (Ok len) → Answered input out out' len
      go (Err why) e refused = no_value (sym refused.0)
      go (Ok s) e printed =
          let text = report_text s printed.judgement rows' in
          let checked = (file_read input fit s e).0 in
          let few : len ≤ 916 = printed_short checked (chosen_lawful s checked) printed in
          record {
            text = text;
            answer = subst (λ r. AnswerFrom r (length out) text) (sym e) (reported printed.room (record { rows = rows'; judgement = printed.judgement; judged = judged_again long printed.judged; said = refl }));
            short = omega (arith, printed.long, few);
            put = put_fits out 0 text out' len (omega (arith, printed.room, printed.long, few)) (printed.text ∙ ap (λ n. text ++ drop n out) (printed.long ∙ sym (zero-add (length text)))) printed.long;
          }

  refusal_answered : (mid out' : List ℕ) (why : Refusal) (len : ℕ) → Planned input rows rows' out mid (Err why) → Put mid 0 (refusal_text why) out' len → length (refusal_text why) ≤ refusal_bytes → Answered input out out' len
  refusal_answered mid out' why len planned put short = go (file input) refl planned
    where
      line : mid ≡ out → AnswerFrom (file input) (length out) (refusal_text why) → Answered input out out' len
      line same said = record { text = refusal_text why; answer = said; short = omega arith; put = subst (λ o. Put o 0 (refusal_text why) out' len) same put }

      why_so : (s : TaskSet) → task_count s ≤ 24 → RefusedFor s rows out why → Says s (length out) (refusal_text why)
      why_so s few (inl (is, lacks)) = absurd (omega arith)
      why_so s few (inr (inl (is, enough, lacks))) = short_output lacks (ap refusal_text is)
      why_so s few (inr (inr (is, enough, lent, over))) = no_busy_period lent over (ap refusal_text is)

      go : (r : Read TaskSet) → file input ≡ r → PlannedFrom r rows rows' out mid (Err why) → Answered input out out' len
      go (Err e) is (same, kept, left) = line left (subst (λ r. AnswerFrom r (length out) (refusal_text why)) (sym is) (ap refusal_text (same_refusal same)))
      go (Ok s) is (kept, left, for) = line left (subst (λ r. AnswerFrom r (length out) (refusal_text why)) (sym is) (why_so s (count_ranges s (file_read input fit s is).0).1 for))

  pub answered : (mid out' : List ℕ) (planned : Result ℕ Refusal) (len : ℕ) → Planned input rows rows' out mid planned → Told planned mid out' len → Answered input out out' len
  answered mid out' (Ok n) len plan (same, kept) = subst (λ o. Answered input out o len) (sym kept) (subst (λ k. Answered input out mid k) (sym same) (report_answered mid n plan))
  answered mid out' (Err why) len plan (put, short) = refusal_answered mid out' why len plan put short
