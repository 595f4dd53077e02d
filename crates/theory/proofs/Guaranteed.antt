-- The three claims together, in both modes and for every lawful order.
use Rattle.std.proofs.Common.{ℕ, ◌≤◌}
use Rattle.table.specs.Rules.{TaskSet, Checked}
use Rattle.policy.specs.Order.{Order}
use Rattle.policy.specs.Laws.{Lawful}
use Rattle.theory.specs.BusyPeriod.{BusyPeriod}
use Rattle.theory.specs.Guarantee.{NeverLonger, Attained, LateExactly}
use Rattle.theory.proofs.Bound.{never_longer}
use Rattle.theory.proofs.Attain.{attained}
use Rattle.theory.proofs.Late.{late_exactly}

pub guaranteed : (s : TaskSet) (o : Order) (L : ℕ) → Checked s → Lawful s o → BusyPeriod s L → L ≤ 60000 → NeverLonger s o L × Attained s o L × LateExactly s o L
guaranteed s o L checked law busy small =
    let never = never_longer s o L checked law busy in
    (never, attained s o L checked law busy small never, late_exactly s o L checked law busy small never)
