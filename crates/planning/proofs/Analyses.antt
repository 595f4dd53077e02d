-- The published analyses, carried over to a given judgement.
use Rattle.std.proofs.Common.{◌≡◌, List, IfOk, Ok, Err, Result, refl, subst, arith}
use Rattle.table.specs.Rules.{TaskSet, Checked}
use Rattle.table.specs.declared.refusal.Refusal.{Refusal}
use Rattle.table.specs.declared.kinds.PolicyCode.{PolicyCode}
use Rattle.table.specs.declared.kinds.PolicyCode.TheVariants.{Fixed, Deadline, Arrival, Bands}
use Rattle.policy.specs.Chosen.{order_of, chosen_order}
use Rattle.policy.specs.Orders.{deadline_order}
use Rattle.policy.specs.Shipped.{chosen_lawful, deadline_lawful}
use Rattle.theory.proofs.CriterionEnough.{criterion_enough}
use Rattle.theory.proofs.CriterionNeeded.{criterion_needed}
use Rattle.theory.proofs.FixedPublished.{fixed_as_published}
use Rattle.analysis.specs.Judged.{Given, Judged, row_at}
use Rattle.analysis.specs.declared.rows.Row.{Row}
use Rattle.analysis.specs.declared.rows.Judgement.{Judgement}
use Rattle.analysis.proofs.Promises.{admitted_by, late_by}
use Rattle.planning.specs.Published.{OwnAnalysis, AsPublished}

pub as_published : (s : TaskSet) → Checked s → (before rows : List Row) (j : Judgement) → Given s (chosen_order s) before rows j → AsPublished s rows j.verdict
as_published s checked before rows j given = record {
  own = go s.policy refl;
  needed = λ on_time. criterion_needed s j.busy_period checked given.busy (chosen_order s) (chosen_lawful s checked) (admitted_by s (chosen_order s) checked (chosen_lawful s checked) before rows j given j.verdict given.verdict on_time);
}
  where
    go : (p : PolicyCode) → s.policy ≡ p → OwnAnalysis p s rows j.verdict
    go Fixed e =
        let mine = subst (λ q. Given s (order_of q s) before rows j) e given in
        λ i h. fixed_as_published s j.busy_period checked mine.busy i (row_at rows i).response (row_at rows i).offset h (mine.rows i h).0
    go Deadline e = λ fits late.
        let mine = subst (λ q. Given s (order_of q s) before rows j) e given in
        let x = late_by s (deadline_order s) checked (deadline_lawful s checked) before rows j mine j.verdict mine.verdict late in
        omega (arith, x.5, criterion_enough s j.busy_period checked fits x.0 x.1 x.2 x.3 x.4)
    go Arrival e = tt
    go Bands e = tt

pub published : (s : TaskSet) → Checked s → (before rows : List Row) (r : Result Judgement Refusal) → Judged s (chosen_order s) before rows r → IfOk r (λ j. AsPublished s rows j.verdict)
published s checked before rows (Ok j) given = as_published s checked before rows j given
published s checked before rows (Err e) kept = tt
