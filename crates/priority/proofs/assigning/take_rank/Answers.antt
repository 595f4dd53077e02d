use Rattle.std.proofs.Common.{◌≡◌, ℕ, ◌<◌, ◌≤◌, Some, None, Option, sym, subst, arith, rules}
use Rattle.std.specs.Option.{MatchOption}
use Rattle.table.specs.Model.{content}
use Rattle.table.specs.Rules.{TaskSet, task_count}
use Rattle.table.specs.declared.checked.Table.{Table}
use Rattle.table.proofs.Tables.{table_checked}
use Rattle.priority.specs.Ordering.{OrderingOf}
use Rattle.priority.specs.Steps.{JudgedBusy, Put, Tried, Reordered, Taken}
use Rattle.priority.proofs.Placing.{put_ordering, put_filled}
use Rattle.priority.proofs.Searches.{last_mapped}
use Rattle.priority.proofs.assigning.take_rank.Goals as goal

-- what try_rank told of task i
abbrev Told : TaskSet → ℕ → ℕ → Option Table → Type 0
Told t k i r = Put t k i r × ((L : ℕ) → JudgedBusy t L → Tried t L k i r)

taken : (o : Table) (k n : ℕ) → 1 ≤ k → k ≤ task_count (content o) → n ≡ task_count (content o) → (r : Option Table)
    → MatchOption r ((j : ℕ) → j < n → Told (content o) k j None) (λ u. (i : ℕ) × (i < n) × Told (content o) k i (Some u) × ((j : ℕ) → i < j → j < n → Told (content o) k j None))
    → Reordered (content o) r × ((L : ℕ) → JudgedBusy (content o) L → Taken (content o) L k r)
taken o k n low high count None none = (tt, λ L busy j inside left. (none j (omega (arith, inside, count))).1 L busy left)
taken o k n low high count (Some u) (i, inside, (put, fits), none) =
    let t = content o in
    let known : i < task_count t = omega (arith, inside, count) in (
      subst (λ v. OrderingOf t v) (sym put.1) (put_ordering t (table_checked o) k i known put.0 low high),
      λ L busy. put_filled t (table_checked o) k i known put.0 low high (content u) put.1 L (fits L busy) (λ j over below left. (none j over (omega (arith, below, count))).1 L busy left),
    )

pub returns : goal.returns
returns c =
    let told = last_mapped c.count.result _ c.find_map.result (Told (content c.args.order.now) c.args.rank) c.find_map.ensures.runs c.rev.ensures.runs (λ a r q h. search rules) (λ x r h. search rules) in
    let all = taken c.args.order.now c.args.rank c.count.result c.requires.low c.requires.high c.count.ensures c.find_map.result told in
    record { reordered = all.0; taken = all.1 }
