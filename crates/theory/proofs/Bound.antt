-- After every list of calls each unfinished job is younger than the worst response of its task, in both modes.
use Rattle.std.proofs.Common.{◌≡◌, ℕ, ◌+◌, ◌-◌, ◌<◌, ◌≤◌, max, false, refl, arith}
use Rattle.table.specs.Rules.{TaskSet, Checked, task_at}
use Rattle.table.specs.declared.kinds.Mode.{Mode}
use Rattle.table.specs.declared.kinds.Mode.TheVariants.{NonPreemptive, Preemptive}
use Rattle.policy.specs.Order.{Order}
use Rattle.policy.specs.Laws.{Lawful}
use Rattle.theory.specs.BusyPeriod.{BusyPeriod}
use Rattle.theory.specs.Response.{ResponseIn}
use Rattle.theory.specs.Worst.{Worst}
use Rattle.theory.specs.Lists.{In}
use Rattle.theory.specs.Machine.{Work, State}
use Rattle.theory.specs.Guarantee.{NeverLonger, after}
use Rattle.theory.proofs.MachineFacts.{Facts, facts_after}
use Rattle.theory.proofs.Window.{Window}
use Rattle.theory.proofs.WindowKept.{window_after}
use Rattle.theory.proofs.Existence.{finish_exists, start_exists}
use Rattle.theory.proofs.Younger.{offset, offset_inside, younger_preemptive, younger_non_preemptive}

-- an unfinished job of a state with its facts and its window
younger : (s : TaskSet) (o : Order) (L : ℕ) → Checked s → Lawful s o → BusyPeriod s L → (st : State) → Facts s st → (w : Work) (r a : ℕ) → In w st.jobs → w.finished ≡ false → Window s o w.task w.release st → Worst s o L w.task r a → st.time < w.release + r
younger s o L checked law busy st f w r a inside left win worst = go s.mode refl worst.longest
  where
    d : ℕ
    d = offset s o checked law L busy st f w inside left win

    lt : d < L
    lt = offset_inside s o checked law L busy st f w inside left win

    go : (m : Mode) → s.mode ≡ m → ((b q : ℕ) → b < L → ResponseIn m s o w.task b q → q ≤ r) → st.time < w.release + r
    go Preemptive e longest =
        let x = finish_exists s o checked law w.task d (f.known w inside) L busy lt in
        omega (arith, younger_preemptive s o checked law L busy st f w inside left win e x.0 x.1, longest d (max (task_at s w.task).cost (x.0 - d)) lt (x.0, x.1, refl))
    go NonPreemptive e longest =
        let x = start_exists s o checked law w.task d (f.known w inside) L busy lt in
        omega (arith, younger_non_preemptive s o checked law L busy st f w inside left win e x.0 x.1, longest d (max (task_at s w.task).cost (x.0 + (task_at s w.task).cost - d)) lt (x.0, x.1, refl))

pub never_longer : (s : TaskSet) (o : Order) (L : ℕ) → Checked s → Lawful s o → BusyPeriod s L → NeverLonger s o L
never_longer s o L checked law busy calls w r a inside left worst =
    let f = facts_after s o checked law calls in
    younger s o L checked law busy (after s o calls) f w r a inside left (window_after s o checked law w.task w.release (f.known w inside) calls) worst
