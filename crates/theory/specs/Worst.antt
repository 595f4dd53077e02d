-- The worst response of a task: the longest over all offsets in the busy period, and the least offset that gives it.
use Rattle.std.specs.Prelude.{ℕ, ◌<◌, ◌≤◌}
use Rattle.table.specs.Rules.{TaskSet}
use Rattle.policy.specs.Order.{Order}
use Rattle.theory.specs.Response.{ResponseAt}

pub record Worst (s : TaskSet) (o : Order) (L i response offset : ℕ) : Type 0 where
  pub inside : offset < L
  pub given : ResponseAt s o i offset response
  pub longest : (a r : ℕ) → a < L → ResponseAt s o i a r → r ≤ response
  pub least : (a : ℕ) → a < L → ResponseAt s o i a response → offset ≤ a
