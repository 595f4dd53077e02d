use Rattle.std.proofs.Common.{◌≡◌, ℕ, ◌+◌, ◌<◌, ◌≤◌, List, length, take, Some, None, Option, sym, ◌∙◌, subst, length-take-le, get_or-take, arith, rules}
use Rattle.table.specs.Model.{content}
use Rattle.table.specs.Rules.{task_at, task_count}
use Rattle.table.proofs.Tables.{table_checked}
use Rattle.table.specs.declared.checked.Table.{Table}
use Rattle.analysis.specs.Busy.{FullLane, Busy}
use Rattle.analysis.specs.Climb.{Climbed}
use Rattle.analysis.specs.Lanes.{no_lane, lane_at, lanes_work}
use Rattle.analysis.specs.declared.lanes.Lane.{Lane}
use Rattle.analysis.proofs.Filling.{few_tasks, made_by}
use Rattle.analysis.proofs.Loads.{climbed_busy, none_overloaded}
use Rattle.analysis.proofs.busy.busy_period.Goals as goal

-- the first lanes are those of the table's tasks
module _ (t : Table) (ls : List Lane) (n : ℕ) (long : length ls ≡ 24) (count : n ≡ task_count (content t)) (each : (j : ℕ) → j < task_count (content t) → FullLane (task_at (content t) j) (lane_at ls j)) where
  front : List Lane
  front = take n ls

  same_count : length front ≡ task_count (content t)
  unfolding front
  same_count = length-take-le n ls (omega (arith, long, count, few_tasks t)) ∙ count

  all_full : (j : ℕ) → j < task_count (content t) → FullLane (task_at (content t) j) (lane_at front j)
  unfolding front
  all_full j h = subst (FullLane (task_at (content t) j)) (sym (get_or-take n ls j no_lane (omega (arith, count)))) (each j h)

  found : (r : Option ℕ) → Climbed (λ v. 0 + lanes_work front v) 1 60000 r → Busy (content t) r
  found None none = none_overloaded (content t) (table_checked t) front same_count all_full none
  found (Some L) (low, high, covers, first) = (high, climbed_busy (content t) (table_checked t) front same_count all_full L low high covers first)

pub slice_bounds-climb-end : goal.slice_bounds-climb-end
slice_bounds-climb-end c = let few : c.count.result ≤ 24 = omega (arith, few_tasks c.args.table.now, c.count.ensures) in search rules

pub climb-requires : goal.climb-requires
climb-requires c =
    let few = few_tasks c.args.table.now in
    let short = length-take-le c.count.result c.from_fn-lanes.result (omega (arith, few, c.count.ensures, c.from_fn-lanes.ensures.items.long)) in
    record { few = omega (arith, few, c.count.ensures, short); short = omega arith; light = omega arith }

pub returns : goal.returns
unfolding front
returns c =
    let s = content c.args.table.now in
    let items = c.from_fn-lanes.ensures.items in
    found c.args.table.now c.from_fn-lanes.result c.count.result items.long c.count.ensures (λ j h. made_by _ (λ k l. k < task_count s → FullLane (task_at s k) l) no_lane _ c.from_fn-lanes.result (λ k l q call. search rules) 24 0 items.each j (omega arith) (omega (arith, few_tasks c.args.table.now)) h) c.climb.result c.climb.ensures
