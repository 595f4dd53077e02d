-- Overdue jobs along a worst course: the first is overdue at the very time of its deadline.
use Rattle.std.proofs.Common.{◌≡◌, ℕ, zero, suc, ◌+◌, ◌<◌, ◌≤◌, false, ◌⊎◌, [], ◌∷◌, ◌++◌, refl, ap, subst, inl, inr, arith}
use Rattle.std.proofs.lemmas.Bool.{cases_lt}
use Rattle.table.specs.Rules.{TaskSet, Checked, task_at, task_count}
use Rattle.table.proofs.Ranges.{task_ranges}
use Rattle.policy.specs.Order.{Order}
use Rattle.policy.specs.Laws.{Lawful}
use Rattle.theory.specs.Lists.{In}
use Rattle.theory.specs.Machine.{Work, tick, last_time}
use Rattle.theory.specs.Course.{releases_below, course_until}
use Rattle.theory.specs.Guarantee.{OverdueAfter}
use Rattle.theory.proofs.Cut.{before}
use Rattle.theory.proofs.MachineFacts.{facts_after}
use Rattle.rehearsal.specs.FirstMiss.{course_at}
use Rattle.rehearsal.proofs.Clock.{one_tick, course_time}

module _ (s : TaskSet) (o : Order) (checked : Checked s) (law : Lawful s o) (i a : ℕ) where
  -- a job that is unfinished one tick later, where none was overdue, reaches its deadline then at the earliest
  pub due_next : (t : ℕ) → (OverdueAfter s o (course_until s o i a t) → ⊥) → (w : Work) → In w (course_at s o i a (suc t)).jobs → w.finished ≡ false → (course_at s o i a t).time + 1 ≤ w.release + (task_at s w.task).deadline
  due_next t none w m open_job = go (cases_lt w.release (course_at s o i a t).time)
    where
      long : 1 ≤ (task_at s w.task).deadline
      long = (task_ranges s checked w.task ((facts_after s o checked law (course_until s o i a (suc t))).known w m)).deadline_low

      earlier : (v : Work) × In v (course_at s o i a t).jobs × (v.task ≡ w.task) × (v.release ≡ w.release) × (v.finished ≡ false) → (course_at s o i a t).time + 1 ≤ w.release + (task_at s w.task).deadline
      earlier (v, k, p, q, y) = two (cases_lt (course_at s o i a t).time (v.release + (task_at s v.task).deadline))
        where
          two : ((course_at s o i a t).time < v.release + (task_at s v.task).deadline) ⊎ (v.release + (task_at s v.task).deadline ≤ (course_at s o i a t).time) → (course_at s o i a t).time + 1 ≤ w.release + (task_at s w.task).deadline
          two (inl lt) = omega (arith, lt, q, ap (λ j. (task_at s j).deadline) p)
          two (inr le) = absurd (none (v, k, y, le))

      go : (w.release < (course_at s o i a t).time) ⊎ ((course_at s o i a t).time ≤ w.release) → (course_at s o i a t).time + 1 ≤ w.release + (task_at s w.task).deadline
      go (inl lt) = earlier (before s o checked law (course_at s o i a t) (facts_after s o checked law (course_until s o i a t)) (releases_below s o i a t (task_count s) ++ (tick false ∷ [])) w.task w.release lt (w, subst (λ z. In w z.jobs) (one_tick s o i a t) m, refl, refl, open_job))
      go (inr le) = omega (arith, le, long)

  -- once the clock stands still nothing more becomes overdue
  pub none_later : ((t : ℕ) → t ≤ last_time → OverdueAfter s o (course_until s o i a t) → ⊥) → (t : ℕ) → OverdueAfter s o (course_until s o i a t) → ⊥
  none_later none zero late = none zero (omega arith) late
  none_later none (suc t) late = go (cases_lt t last_time) (none_later none t) late
    where
      go : (t < last_time) ⊎ (last_time ≤ t) → (OverdueAfter s o (course_until s o i a t) → ⊥) → OverdueAfter s o (course_until s o i a (suc t)) → ⊥
      go (inl lt) so_far miss = none (suc t) lt miss
      go (inr le) so_far (w, m, open_job, due) = omega (arith, due_next t so_far w m open_job, due, course_time s o i a t, course_time s o i a (suc t))
