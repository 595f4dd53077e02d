use Rattle.std.proofs.Common.{◌≡◌, ℕ, ◌<◌, ◌≤◌, List, ◌++◌, Some, length, drop, sym, subst, length-take-le, arith}
use Rattle.std.proofs.Math.ListN.{get_or-append}
use Rattle.std.proofs.lemmas.Slice.{drop-append-drop}
use Rattle.table.specs.Model.{content}
use Rattle.table.specs.Rules.{task_count}
use Rattle.table.proofs.Tables.{table_checked}
use Rattle.analysis.specs.Busy.{Busy}
use Rattle.analysis.specs.Judged.{Given, RowOf, VerdictOf, Meets, no_row, row_at}
use Rattle.analysis.specs.declared.rows.Judgement.{Judgement}
use Rattle.analysis.specs.declared.rows.Row.{Row}
use Rattle.analysis.specs.declared.rows.Verdict.{Verdict}
use Rattle.analysis.specs.declared.rows.Verdict.TheVariants.{Admitted, Late}
use Rattle.policy.proofs.Lawfulness.{table_laws}
use Rattle.analysis.proofs.Promises.{rows_bound, rows_attained, verdict_exact}
use Rattle.analysis.proofs.judging.judge.Goals as goal

-- the verdict on the first rows is that on all, since it looks no further
front_verdict : (front rest : List Row) (v : Verdict) → VerdictOf (length front) front v → VerdictOf (length front) (front ++ rest) v
front_verdict front rest v given = go v given
  where
    same : (i : ℕ) → i < length front → row_at front i ≡ row_at (front ++ rest) i
    same i h = sym (get_or-append front rest no_row i h)

    meets : (i : ℕ) → i < length front → Meets front i → Meets (front ++ rest) i
    meets i h m = subst (λ (row : Row). row.response ≤ row.deadline) (same i h) m

    go : (w : Verdict) → VerdictOf (length front) front w → VerdictOf (length front) (front ++ rest) w
    go Admitted all = λ i h. meets i h (all i h)
    go (Late k) (here, late, before) = (here, subst (λ (row : Row). row.deadline < row.response) (same k here) late, λ i h. meets i (omega arith) (before i h))

pub returns : goal.returns
returns g c =
    let n = c.count-count.result in
    let t = c.args.table.now in
    let s = content t in
    let p = c.args.policy.now in
    let o = g.P.Policy.meaning p s in
    let met = g.met.P.Policy in
    let checked = table_checked t in
    let laws = table_laws g.P.Policy.meaning met.total met.transitive met.earlier met.range met.rule p t in
    let front = c.fill.new.rows in
    let rest = drop n c.args.rows.now in
    let after = front ++ rest in
    let found : Busy s (Some c.in_ok-busy.busy) = subst (Busy s) c.in_ok-busy.ensures.ok_part c.busy_period.ensures in
    let j : Judgement = record { busy_period = c.in_ok-busy.busy; verdict = c.verdict.result } in
    let long : length front ≡ task_count s = omega (arith, c.fill.auto.rows, length-take-le n c.args.rows.now (omega (arith, c.if-rows-count.false)), c.count-count.ensures) in
    let given : Given s o c.args.rows.now after j = record {
      enough = omega (arith, c.if-rows-count.false, c.count-count.ensures);
      short = found.0;
      busy = found.1;
      rows = λ i h. subst (λ row. RowOf s o j.busy_period i row) (sym (get_or-append front rest no_row i (omega (arith, long)))) (c.fill.ensures i h);
      rest = drop-append-drop n c.args.rows.now front (task_count s) (omega (arith, c.count-count.ensures)) (omega (arith, long, c.count-count.ensures));
      verdict = subst (λ m. VerdictOf m after c.verdict.result) long (front_verdict front rest c.verdict.result c.verdict.ensures);
    } in
    record {
      judged = given;
      never_longer = rows_bound s o checked laws c.args.rows.now after j given;
      attained = rows_attained s o checked laws c.args.rows.now after j given;
      late_exactly = verdict_exact s o checked laws c.args.rows.now after j given;
    }
