-- The ways to order the tasks of a table by fixed priorities: same tasks and mode, other ranks.
use Rattle.std.specs.Prelude.{◌≡◌, ℕ, cond, map, ◌==◌, int_lt, nat_lt}
use Rattle.table.specs.Sporadic.{Sporadic}
use Rattle.table.specs.Rules.{TaskSet, Checked, task_at}
use Rattle.table.specs.declared.kinds.PolicyCode.TheVariants.{Fixed}
use Rattle.policy.specs.Order.{Order}
use Rattle.policy.specs.declared.job.Reach.TheVariants.{Always, Never}

-- a task without its rank
abbrev pub unranked : Sporadic → Sporadic
unranked t = record { cost = t.cost; period = t.period; deadline = t.deadline; rank = 0; name = t.name }

-- t has the tasks of s in their order, with the ranks 1 to n given anew, the mode of s, policy Fixed and band 0
pub record OrderingOf (s t : TaskSet) : Type 0 where
  pub policy : t.policy ≡ Fixed
  pub band : t.band ≡ 0
  pub mode : t.mode ≡ s.mode
  pub tasks : map unranked t.tasks ≡ map unranked s.tasks
  pub ranks : Checked t

abbrev pub rank_in : TaskSet → ℕ → ℕ
rank_in t i = (task_at t i).rank

-- jobs of a task of a lower level are always ahead of those of a higher one
abbrev pub level_order : (ℕ → ℕ) → Order
level_order level = record {
  ahead = λ x y. cond (x.task == y.task) (int_lt x.release y.release) (nat_lt (level x.task) (level y.task));
  reach = λ i j. cond (nat_lt (level j) (level i)) Always Never;
}
