-- Following a worst course: nothing is refused up to time t, or some job on it is overdue by then.
use Rattle.std.proofs.Common.{◌≡◌, ℕ, zero, suc, ◌+◌, ◌*◌, ◌≤◌, true, false, cond, leb, ◌⊎◌, [], ◌∷◌, ◌++◌, Some, None, sym, refl, ap, subst, inl, inr, le_refl, arith}
use Rattle.std.proofs.lemmas.Bool.{cases_Bool, cond-true, cond-false, lt-leb}
use Rattle.table.specs.Rules.{TaskSet, Checked, task_at, task_count}
use Rattle.table.specs.declared.refusal.Refusal.TheVariants.{TimeOver}
use Rattle.table.proofs.Ranges.{task_ranges}
use Rattle.policy.specs.Order.{Order}
use Rattle.policy.specs.Laws.{Lawful}
use Rattle.theory.specs.Lists.{In}
use Rattle.theory.specs.Machine.{Work, State, release, tick, refusal, play, start, last_time}
use Rattle.theory.specs.Course.{releases_at, releases_below, course_until}
use Rattle.theory.specs.Guarantee.{OverdueAfter}
use Rattle.theory.proofs.Accepted.{Accepted, accepted_join}
use Rattle.theory.proofs.Stage.{Stage, Keeps, staged, staged_releases}
use Rattle.theory.proofs.FullLine.{taken}
use Rattle.theory.proofs.Cut.{before}
use Rattle.theory.proofs.MachineFacts.{facts_after}

module _ (s : TaskSet) (o : Order) (checked : Checked s) (law : Lawful s o) (i a : ℕ) where
  nothing : Keeps s o i a (λ t jobs. Unit {0})
  nothing = record { first = tt; released = λ t m st g v. tt; ticked = λ t st g v r c. tt }

  -- the state at time t, and the one after the releases at t of the tasks below m
  abbrev pub at_time : ℕ → State
  at_time t = play s o start (course_until s o i a t)

  abbrev pub at_release : ℕ → ℕ → State
  at_release t m = play s o (at_time t) (releases_below s o i a t m)

  pub stage_here : (t m : ℕ) → m ≤ task_count s → Accepted s o start (course_until s o i a t) → Accepted s o (at_time t) (releases_below s o i a t m) → Stage s o i a t m (at_release t m)
  stage_here t m le acc rel = (staged_releases s o checked law i a _ nothing t m (at_time t) le (staged s o checked law i a _ nothing t acc) rel).0

  -- some job is overdue on the course by time t
  abbrev pub OverdueBy : ℕ → Type 0
  OverdueBy t = (u : ℕ) × (u ≤ t) × OverdueAfter s o (course_until s o i a u)

  -- the releases at t
  follow_releases : (t m : ℕ) → m ≤ task_count s → Accepted s o start (course_until s o i a t) → Accepted s o (at_time t) (releases_below s o i a t m) ⊎ OverdueAfter s o (course_until s o i a t)
  unfolding releases_below
  follow_releases t zero le acc = inl tt
  follow_releases t (suc m) le acc = go (follow_releases t m (omega arith) acc) (cases_Bool (releases_at s o i a m t))
    where
      now : (at_time t).time ≡ t
      now = (staged s o checked law i a _ nothing t acc).0.now

      found : (w : Work) → In w (at_release t m).jobs → w.finished ≡ false → w.task ≡ m → w.release + 8 * (task_at s m).period ≤ t → OverdueAfter s o (course_until s o i a t)
      found w k un e old = at (before s o checked law (at_time t) (facts_after s o checked law (course_until s o i a t)) (releases_below s o i a t m) m w.release (omega (arith, now, (task_ranges s checked m le).period_low)) (w, k, e, refl, un))
        where
          at : (v : Work) × In v (at_time t).jobs × (v.task ≡ m) × (v.release ≡ w.release) × (v.finished ≡ false) → OverdueAfter s o (course_until s o i a t)
          at (v, l, p, q, y) =
              let due : (task_at s m).deadline ≤ 8 * (task_at s m).period = (task_ranges s checked m le).deadline_periods in
              (v, l, y, omega (arith, now, q, ap (λ j. (task_at s j).deadline) p))

      go : Accepted s o (at_time t) (releases_below s o i a t m) ⊎ OverdueAfter s o (course_until s o i a t) → (releases_at s o i a m t ≡ true) ⊎ (releases_at s o i a m t ≡ false) → Accepted s o (at_time t) (releases_below s o i a t m ++ cond (releases_at s o i a m t) (release m ∷ []) []) ⊎ OverdueAfter s o (course_until s o i a t)
      go (inr miss) e = inr miss
      go (inl rel) (inr e) = inl (subst (λ cs. Accepted s o (at_time t) (releases_below s o i a t m ++ cs)) (sym (cond-false (releases_at s o i a m t) (release m ∷ []) [] e)) (accepted_join s o (at_time t) (releases_below s o i a t m) [] rel tt))
      go (inl rel) (inl e) = two (taken s o i a t m le (at_release t m) (stage_here t m (omega arith) acc rel) e)
        where
          two : (refusal s (at_release t m) (release m) ≡ None) ⊎ ((w : Work) × In w (at_release t m).jobs × (w.finished ≡ false) × (w.task ≡ m) × (w.release + 8 * (task_at s m).period ≤ t)) → Accepted s o (at_time t) (releases_below s o i a t m ++ cond (releases_at s o i a m t) (release m ∷ []) []) ⊎ OverdueAfter s o (course_until s o i a t)
          two (inl free) = inl (subst (λ cs. Accepted s o (at_time t) (releases_below s o i a t m ++ cs)) (sym (cond-true (releases_at s o i a m t) (release m ∷ []) [] e)) (accepted_join s o (at_time t) (releases_below s o i a t m) (release m ∷ []) rel (free, tt)))
          two (inr (w, k, un, q, old)) = inr (found w k un q old)

  pub follow : (t : ℕ) → t ≤ last_time → Accepted s o start (course_until s o i a t) ⊎ OverdueBy t
  unfolding course_until
  follow zero le = inl tt
  follow (suc t) le = go (follow t (omega arith))
    where
      go : Accepted s o start (course_until s o i a t) ⊎ OverdueBy t → Accepted s o start (course_until s o i a t ++ (releases_below s o i a t (task_count s) ++ (tick false ∷ []))) ⊎ OverdueBy (suc t)
      go (inr (u, early, miss)) = inr (u, omega arith, miss)
      go (inl acc) = two (follow_releases t (task_count s) (le_refl _) acc)
        where
          two : Accepted s o (at_time t) (releases_below s o i a t (task_count s)) ⊎ OverdueAfter s o (course_until s o i a t) → Accepted s o start (course_until s o i a t ++ (releases_below s o i a t (task_count s) ++ (tick false ∷ []))) ⊎ OverdueBy (suc t)
          two (inr miss) = inr (t, omega arith, miss)
          two (inl rel) =
              let g = stage_here t (task_count s) (le_refl _) acc rel in
              let free : refusal s (at_release t (task_count s)) (tick false) ≡ None = cond-false (leb last_time (at_release t (task_count s)).time) (Some TimeOver) None (lt-leb last_time (at_release t (task_count s)).time (omega (arith, g.now))) in
              inl (accepted_join s o start (course_until s o i a t) _ acc (accepted_join s o (at_time t) (releases_below s o i a t (task_count s)) (tick false ∷ []) rel (free, tt)))
