use Rattle.std.proofs.Common.{◌≡◌, ◌+◌, ◌-◌, ◌≤◌, Some, None, Err, sym, refl, subst, arith, rules}
use Rattle.analysis.proofs.Filling.{few_tasks}
use Rattle.table.specs.Model.{content}
use Rattle.table.specs.Rules.{task_count}
use Rattle.table.specs.declared.refusal.Refusal.TheVariants.{RankUnfilled}
use Rattle.table.proofs.Tables.{table_checked}
use Rattle.table.proofs.Ranges.{count_ranges}
use Rattle.priority.specs.Assignment.{Filled}
use Rattle.priority.specs.Ordering.{OrderingOf}
use Rattle.priority.specs.Steps.{Reordered, Taken, Ranked}
use Rattle.priority.proofs.Pointwise.{same_busy, ordering_alike}
use Rattle.priority.proofs.Exchanging.{exchange_ordering}
use Rattle.priority.proofs.Placing.{ordering_more, none_filled}
use Rattle.priority.proofs.assigning.fill_ranks.Goals as goal

pub exchange_ranks-order-requires : goal.exchange_ranks-order-requires
exchange_ranks-order-requires c =
    let some = (count_ranges (content c.args.table.now) (table_checked c.args.table.now)).0 in
    record { first_low = omega arith; first_high = some; second_low = omega arith; second_high = some }

pub loop-left-init : goal.loop-left-init
loop-left-init c =
    let t = c.args.table.now in
    let s = content t in
    let u = content c.exchange_ranks-order.result in
    let some = (count_ranges s (table_checked t)).0 in
    let ordering : OrderingOf s u = subst (λ v. OrderingOf s v) (sym c.exchange_ranks-order.ensures) (exchange_ordering 1 1 s (table_checked t) (omega arith) some (omega arith) some) in
    let all : task_count u ≡ c.count-left.result = omega (arith, (ordering_alike s u ordering).count, c.count-left.ensures) in
    (ordering, λ L busy. subst (λ k. Filled u L k) all (none_filled u L ordering.ranks))

pub overflow_cast-rank : goal.overflow_cast-rank
overflow_cast-rank c =
    let few : c.loop-left.left ≤ 24 = omega (arith, c.loop-left.auto.left, c.count-left.ensures, few_tasks c.args.table.now) in
    search rules

pub take_rank-requires : goal.take_rank-requires
take_rank-requires c =
    let s = content c.args.table.now in
    record {
      low = omega arith;
      high = omega (arith, c.loop-left.auto.left, c.loop-left-test.true, c.count-left.ensures, (ordering_alike s (content c.loop-left.order) c.loop-left.invariant.0).count);
    }

pub returns-in_err-order : goal.returns-in_err-order
returns-in_err-order c = λ L busy.
    let s = content c.args.table.now in
    let t = content c.loop-left.order in
    let k = c.loop-left.left - 1 + 1 in
    let same : c.loop-left.left ≡ k = omega (arith, c.loop-left-test.true) in
    let none : c.take_rank.result ≡ None = search rules in
    let refused : c.from_residual.result ≡ Err (RankUnfilled k) = search rules in
    subst (λ r. Ranked s L r) (sym refused) (
      k,
      refl,
      omega arith,
      omega (arith, c.loop-left.auto.left, c.count-left.ensures, same),
      (
        t,
        c.loop-left.invariant.0,
        subst (λ q. Filled t L q) same (c.loop-left.invariant.1 L busy),
        subst (λ r. Taken t L k r) none (c.take_rank.ensures.taken L (busy.0, same_busy s t L (ordering_alike s t c.loop-left.invariant.0) busy.1)),
      ),
    )

pub loop-left-preserved : goal.loop-left-preserved
loop-left-preserved c =
    let s = content c.args.table.now in
    let t = content c.loop-left.order in
    let u = content c.in_ok-order.order in
    let k = c.loop-left.left - 1 + 1 in
    let same : c.loop-left.left ≡ k = omega (arith, c.loop-left-test.true) in
    let less : k - 1 ≡ c.loop-left.left - 1 = omega arith in
    let found : c.take_rank.result ≡ Some c.in_ok-order.order = search rules in (
      ordering_more s t u c.loop-left.invariant.0 (subst (λ r. Reordered t r) found c.take_rank.ensures.reordered),
      λ L busy.
          subst (λ q. Filled u L q) less
          (subst (λ r. Taken t L k r) found (c.take_rank.ensures.taken L (busy.0, same_busy s t L (ordering_alike s t c.loop-left.invariant.0) busy.1)) (subst (λ q. Filled t L q) same (c.loop-left.invariant.1 L busy))),
    )
