-- Late exactly when some list of calls leaves a job unfinished at its deadline.
use Rattle.std.proofs.Common.{◌≡◌, ℕ, ◌+◌, ◌<◌, ◌≤◌, true, false, ◌⊎◌, ap, inl, inr, arith}
use Rattle.std.proofs.lemmas.Bool.{cases_Bool}
use Rattle.table.specs.Rules.{TaskSet, Checked, task_at, task_count}
use Rattle.table.proofs.Ranges.{task_ranges}
use Rattle.policy.specs.Order.{Order}
use Rattle.policy.specs.Laws.{Lawful}
use Rattle.theory.specs.BusyPeriod.{BusyPeriod}
use Rattle.theory.specs.Worst.{Worst}
use Rattle.theory.specs.Machine.{play, start}
use Rattle.theory.specs.Course.{lead, course_until}
use Rattle.theory.specs.Guarantee.{LateBy, NeverLonger, Misses, LateExactly}
use Rattle.theory.proofs.MachineFacts.{facts_after}
use Rattle.theory.proofs.Accepted.{Accepted}
use Rattle.theory.proofs.Stage.{Stage, staged}
use Rattle.theory.proofs.Slow.{Slow, slow_at}
use Rattle.theory.proofs.Follow.{follow, OverdueBy}
use Rattle.theory.proofs.Cut.{missed}
use Rattle.theory.proofs.Present.{TheJob, present, lead_small}
use Rattle.theory.proofs.WorstExists.{worst_exists}

module _ (s : TaskSet) (o : Order) (L : ℕ) (checked : Checked s) (law : Lawful s o) (busy : BusyPeriod s L) where
  -- what no job exceeds is not within the deadline of a job that misses it
  pub misses_late : NeverLonger s o L → Misses s o → LateBy s o L
  misses_late never (calls, w, m, un, e) =
      let known = (facts_after s o checked law calls).known w m in
      let row = worst_exists s o L w.task checked law busy known in
      (w.task, row.0, row.1, known, row.2, omega (arith, e, never calls w row.0 row.1 m un row.2))

  -- the worst course of a late task: its job is unfinished at its deadline, or some job was overdue before
  pub late_overdue : L ≤ 60000 → (i r a : ℕ) → i < task_count s → Worst s o L i r a → (task_at s i).deadline < r → OverdueBy s o checked law i a (lead s o i a + a + (task_at s i).deadline)
  late_overdue small i r a hi worst late = go (follow s o checked law i a (lead s o i a + a + (task_at s i).deadline) (omega (arith, lead_small s o i a, worst.inside, (task_ranges s checked i hi).deadline_high)))
    where
      end : ℕ
      end = lead s o i a + a + (task_at s i).deadline

      unfinished : (f : Slow s o i a r) → Stage s o i a end 0 (play s o start (course_until s o i a end)) → f.Inv end (play s o start (course_until s o i a end)).jobs → TheJob s o i a hi (play s o start (course_until s o i a end)).jobs → OverdueBy s o checked law i a end
      unfinished f g inv (w, m, e, d) = two (cases_Bool w.finished)
        where
          two : (w.finished ≡ true) ⊎ (w.finished ≡ false) → OverdueBy s o checked law i a end
          two (inl h) = absurd (omega (arith, f.slow end 0 (play s o start (course_until s o i a end)) g inv w m e d h))
          two (inr h) = (end, omega arith, (w, m, h, omega (arith, g.now, ap (λ j. (task_at s j).deadline) e)))

      go : Accepted s o start (course_until s o i a end) ⊎ OverdueBy s o checked law i a end → OverdueBy s o checked law i a end
      go (inr miss) = miss
      go (inl acc) =
          let f = slow_at s o checked law i a r hi worst.given in
          let here = staged s o checked law i a f.Inv f.keeps end acc in
          unfinished f here.0 here.1 (present s o i a hi end 0 (play s o start (course_until s o i a end)) here.0 (omega (arith, (task_ranges s checked i hi).deadline_low)))

  pub overdue_misses : (i a t : ℕ) → OverdueBy s o checked law i a t → Misses s o
  overdue_misses i a t (u, early, (w, m, un, due)) = missed s o checked law (course_until s o i a u) w m un due

  late_misses : L ≤ 60000 → LateBy s o L → Misses s o
  late_misses small (i, r, a, hi, worst, late) = overdue_misses i a (lead s o i a + a + (task_at s i).deadline) (late_overdue small i r a hi worst late)

pub late_exactly : (s : TaskSet) (o : Order) (L : ℕ) → Checked s → Lawful s o → BusyPeriod s L → L ≤ 60000 → NeverLonger s o L → LateExactly s o L
late_exactly s o L checked law busy small never = (late_misses s o L checked law busy small, misses_late s o L checked law busy never)
