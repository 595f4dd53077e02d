use Rattle.std.proofs.Common.{◌≡◌, ℕ, ◌≤◌, sym, ap, ◌∙◌, subst, arith}
use Rattle.table.specs.Model.{content}
use Rattle.table.proofs.Tables.{table_checked}
use Rattle.table.proofs.Ranges.{task_ranges}
use Rattle.priority.specs.Exchange.{with_exchanged}
use Rattle.priority.specs.Ordering.{rank_in}
use Rattle.priority.specs.Steps.{JudgedBusy, Tried}
use Rattle.priority.proofs.Placing.{put_tried}
use Rattle.priority.proofs.assigning.try_rank.Goals as goal

pub exchange_ranks-next-requires-clause-first_low : goal.exchange_ranks-next-requires-clause-first_low
exchange_ranks-next-requires-clause-first_low c =
    let t = c.args.order.now in
    omega (arith, c.rank_of-present.ensures, (task_ranges (content t) (table_checked t) c.args.task c.requires.known).rank_low)

pub returns-clause-fits : goal.returns-clause-fits
returns-clause-fits c =
    let t = c.args.order.now in
    let s = content t in
    let i = c.args.task in
    let u = content c.exchange_ranks-next.result in
    let left : rank_in s i ≤ c.args.rank = omega (arith, c.rank_of-present.ensures, c.if-present-rank.false) in
    let is : u ≡ with_exchanged (rank_in s i) c.args.rank s = c.exchange_ranks-next.ensures ∙ ap (λ x. with_exchanged x c.args.rank s) c.rank_of-present.ensures in
    subst (λ r. (L : ℕ) → JudgedBusy s L → Tried s L c.args.rank i r) (sym c.then_some.ensures)
    (put_tried s (table_checked t) c.args.rank i c.requires.known left c.requires.low c.requires.high u is c.in_time.result c.exchange_ranks-next.result c.in_time.ensures)
