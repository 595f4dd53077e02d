-- No worst response is longer than the busy period and C together.
use Rattle.std.proofs.Common.{ℕ, ◌+◌, ◌<◌, ◌≤◌, arith}
use Rattle.table.specs.Rules.{TaskSet, Checked, task_at, task_count}
use Rattle.table.specs.declared.kinds.Mode.{Mode}
use Rattle.table.specs.declared.kinds.Mode.TheVariants.{NonPreemptive, Preemptive}
use Rattle.policy.specs.Laws.{Lawful}
use Rattle.policy.specs.Order.{Order}
use Rattle.theory.specs.BusyPeriod.{BusyPeriod}
use Rattle.theory.specs.Response.{until_finish, until_start, ResponseIn}
use Rattle.theory.specs.Worst.{Worst}
use Rattle.theory.proofs.Existence.{finish_exists, start_exists}
use Rattle.theory.proofs.WorstExists.{one_solution}

pub worst_below : (s : TaskSet) (o : Order) → Checked s → Lawful s o → (L i r a : ℕ) → i < task_count s → BusyPeriod s L → Worst s o L i r a → r ≤ L + (task_at s i).cost
worst_below s o checked law L i r a known busy worst = go s.mode worst.given
  where
    go : (m : Mode) → ResponseIn m s o i a r → r ≤ L + (task_at s i).cost
    go Preemptive (F, solved, e) = let known_end = finish_exists s o checked law i a known L busy worst.inside in omega (arith, e, known_end.2, one_solution 1 (until_finish s o i a) F known_end.0 solved known_end.1)
    go NonPreemptive (G, solved, e) = let KnownStart = start_exists s o checked law i a known L busy worst.inside in omega (arith, e, KnownStart.2, one_solution 0 (until_start s o i a) G KnownStart.0 solved KnownStart.1)
