-- The row of one task: what its lanes and its own part have to be, and what comes of them.
use Rattle.std.proofs.Common.{◌≡◌, ℕ, ◌<◌, ◌≤◌, List, length, take, sym, ap, ◌∙◌, subst, length-take-le, get_or-take, arith}
use Rattle.table.specs.Content.{sporadic}
use Rattle.table.specs.Model.{content}
use Rattle.table.specs.Rules.{task_at, task_count}
use Rattle.table.specs.Sporadic.{Sporadic}
use Rattle.table.proofs.Tables.{table_checked}
use Rattle.table.specs.declared.checked.Table.{Table}
use Rattle.table.specs.declared.task.Task.{Task}
use Rattle.policy.specs.Order.{Order}
use Rattle.policy.specs.Laws.{Lawful}
use Rattle.theory.specs.BusyPeriod.{BusyPeriod}
use Rattle.theory.specs.Worst.{Worst}
use Rattle.analysis.specs.Best.{Best}
use Rattle.analysis.specs.Lanes.{no_lane, lane_at}
use Rattle.analysis.specs.Own.{window_work, LaneResponse}
use Rattle.analysis.specs.Reaches.{LaneTo}
use Rattle.analysis.specs.declared.lanes.Lane.{Lane}
use Rattle.analysis.specs.declared.window.Own.{Own}
use Rattle.analysis.proofs.Bridge.{Made}
use Rattle.analysis.proofs.Exact.{OwnOf, fits, best_worst}
use Rattle.analysis.proofs.Filling.{few_tasks}

-- the own part of a stored task is that of its number
pub own_is : (t : Table) (i : ℕ) (task : Task) (w : Own) → w.mode ≡ (content t).mode → w.cost ≡ task.cost → w.period ≡ task.period → sporadic task ≡ task_at (content t) i → OwnOf (content t) i w
own_is t i task w mode cost period is = record { mode = mode; cost = cost ∙ ap (λ (x : Sporadic). x.cost) is; period = period ∙ ap (λ (x : Sporadic). x.period) is }

module _ (t : Table) (o : Order) (lawful : Lawful (content t) o) (i : ℕ) (known : i < task_count (content t)) (ls : List Lane) (n : ℕ) (long : length ls ≡ 24) (count : n ≡ task_count (content t)) (each : (j : ℕ) → j < task_count (content t) → LaneTo (content t) o i j (lane_at ls j)) where
  pub front_made : Made (content t) o i (take n ls)
  front_made = record {
    long = length-take-le n ls (omega (arith, long, count, few_tasks t)) ∙ count;
    each = λ j h. subst (LaneTo (content t) o i j) (sym (get_or-take n ls j no_lane (omega (arith, count)))) (each j h);
  }

  pub front_fits : (L : ℕ) → BusyPeriod (content t) L → L ≤ 60000 → (w : Own) → OwnOf (content t) i w → (a : ℕ) → a < L → window_work w (take n ls) a L ≤ L
  front_fits L busy short w own = fits (content t) o (table_checked t) lawful i known (take n ls) front_made w own L busy short

  pub front_worst : (L : ℕ) → BusyPeriod (content t) L → L ≤ 60000 → (w : Own) → OwnOf (content t) i w → (r a : ℕ) → Best (LaneResponse w (take n ls) L) L r a → Worst (content t) o L i r a
  front_worst L busy short w own = best_worst (content t) o (table_checked t) lawful i known (take n ls) front_made w own L busy short
