-- Each table is checked by computing; that no window covers the overloaded one is arithmetic.
use Rattle.std.proofs.Common.{refl, inr, arith}
use Rattle.table.specs.Rules.{follows_rules}
use Rattle.table.specs.declared.kinds.Mode.TheVariants.{Preemptive}
use Rattle.table.specs.declared.kinds.PolicyCode.TheVariants.{Fixed}
use Rattle.theory.specs.Sums.{sum_below, max_below, count_below}
use Rattle.theory.specs.BusyPeriod.{Overloaded}
use Rattle.vectors.specs.Tables.{task, two}
use Rattle.vectors.proofs.Checks.{all_below, climb, window, window_is, response, rows_are, line_is, all_meet}
use Rattle.vectors.proofs.Sound.{admitted, late}
use Rattle.vectors.proofs.Placed.{none_admitted, in_order}
use Rattle.vectors.proofs.reference_tables_stand.Goals as goal

too_much : Overloaded (two Fixed Preemptive (task 1 1 1 1) (task 1 2 2 2))
unfolding sum_below
too_much L short busy = omega (arith, busy.from, busy.solves)

pub returns : goal.returns
unfolding follows_rules sum_below max_below count_below all_below climb window window_is response rows_are line_is all_meet
returns c = record {
  fixed_preemptive = late _ _ _ _ refl refl;
  fixed_longer_deadline = admitted _ _ _ _ refl refl;
  fixed_non_preemptive = admitted _ _ _ _ refl refl;
  fixed_shorter_deadline = late _ _ _ _ refl refl;
  deadline_preemptive = admitted _ _ _ _ refl refl;
  deadline_non_preemptive = admitted _ _ _ _ refl refl;
  arrival_preemptive = admitted _ _ _ _ refl refl;
  arrival_non_preemptive = admitted _ _ _ _ refl refl;
  deadline_tie = admitted _ _ _ _ refl refl;
  bands = admitted _ _ _ _ refl refl;
  full = admitted _ _ _ _ refl refl;
  overloaded = too_much;
  overloaded_refused = (refl, λ rows enough. (refl, inr (refl, enough, too_much)));
  priorities_preemptive = none_admitted;
  priorities_non_preemptive = in_order;
}
