use Rattle.std.proofs.Common.{◌≡◌, ℕ, ◌+◌, List, map, Ok, Err, sym, refl, ◌∙◌, rules}
use Rattle.std.proofs.lemmas.Result.{err_from_is_err_and}
use Rattle.table.specs.Content.{sporadic}
use Rattle.tablefile.specs.Fields.{Read, ◌then◌, mark_at, cost_at, period_at, deadline_at, rank_at, name_at}
use Rattle.tablefile.specs.Format.{task_at}
use Rattle.tablefile.proofs.Steps.{task_says}
use Rattle.tablefile.proofs.reader.Reader.read_task.Goals as goal
use Rattle.tablefile.proofs.reader.Reader.read_task.Goals.{In_ok-period}

with_deadline : (c : In_ok-period) (deadline rank : Read ℕ) (name : Read (List ℕ)) → deadline ≡ deadline_at c.args.self.now.src.now (c.args.self.now.pos + 6) c.in_ok-period.period → rank ≡ rank_at c.args.self.now.src.now (c.args.self.now.pos + 8) c.args.count (map sporadic c.args.earlier.now) → name_at c.args.self.now.src.now (c.args.self.now.pos + 9) ≡ name → task_at c.args.self.now.src.now c.args.self.now.pos c.args.count (map sporadic c.args.earlier.now) ≡ (deadline then λ d. rank then λ r. name then λ b. Ok (record { cost = c.in_ok-cost.cost; period = c.in_ok-period.period; deadline = d; rank = r; name = b }))
with_deadline c deadline rank name deadline_read rank_read name_read =
    let s = c.args.self.now.src.now in
    let p = c.args.self.now.pos in
    let marked : Ok c.in_ok-number.field-0 ≡ mark_at s p 0x544B = search rules in
    let cost_read : Ok c.in_ok-cost.cost ≡ cost_at s (p + 2) = search rules in
    let period_read : Ok c.in_ok-period.period ≡ period_at s (p + 4) = search rules in
    task_says s p c.args.count (map sporadic c.args.earlier.now) marked cost_read period_read deadline_read rank_read name_read

pub returns-in_err-deadline-clause-value : goal.returns-in_err-deadline-clause-value
returns-in_err-deadline-clause-value c =
    let p = err_from_is_err_and c.from_residual-in_err-deadline.result c.from_residual-in_err-deadline.ensures.1 in
    rw (p.1, p.2) (with_deadline (goal.at.returns-in_err-deadline-clause-value c).In_ok-period (Err c.in_err-deadline.field-0.0) _ _ (search rules) refl refl)

pub returns-in_err-rank-clause-value : goal.returns-in_err-rank-clause-value
returns-in_err-rank-clause-value c =
    let p = err_from_is_err_and c.from_residual-in_err-rank.result c.from_residual-in_err-rank.ensures.1 in
    rw (p.1, p.2) (with_deadline (goal.at.returns-in_err-rank-clause-value c).In_ok-period (Ok c.in_ok-deadline.deadline) (Err c.in_err-rank.field-0.0) _ (search rules) (search rules) refl)

pub returns-in_err-name-clause-value : goal.returns-in_err-name-clause-value
returns-in_err-name-clause-value c =
    let p = err_from_is_err_and c.from_residual-in_err-name.result c.from_residual-in_err-name.ensures.1 in
    let input : c.rank.new.self.src.now ≡ c.args.self.now.src.now = search rules in
    let place : c.rank.new.self.pos ≡ c.args.self.now.pos + 9 = search rules in
    rw (p.1, p.2) (with_deadline (goal.at.returns-in_err-name-clause-value c).In_ok-period (Ok c.in_ok-deadline.deadline) (Ok c.in_ok-rank.rank) (Err c.in_err-name.field-0.0) (search rules) (search rules) ((λ j. name_at (sym input j) (sym place j)) ∙ c.in_err-name.ensures.value))

pub returns-clause-value : goal.returns-clause-value
returns-clause-value c = with_deadline (goal.at.returns-clause-value c).In_ok-period (Ok c.in_ok-deadline.deadline) (Ok c.in_ok-rank.rank) (Ok c.in_ok-name.name.now) (search rules) (search rules) (search rules)
