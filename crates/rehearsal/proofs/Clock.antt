-- The time along a worst course: as many ticks as were made, until the clock ends.
use Rattle.std.proofs.Common.{◌≡◌, ℕ, zero, suc, ◌+◌, ◌<◌, ◌≤◌, min, Bool, true, false, cond, leb, ◌⊎◌, List, [], ◌∷◌, ◌++◌, Some, None, refl, ap, ◌∙◌, inl, inr, arith}
use Rattle.std.proofs.lemmas.Bool.{cases_lt, cond-true, cond-false, lt-leb, le-leb}
use Rattle.table.specs.Rules.{TaskSet, task_count}
use Rattle.table.specs.declared.refusal.Refusal.TheVariants.{TimeOver}
use Rattle.policy.specs.Order.{Order}
use Rattle.theory.specs.Machine.{State, Call, release, tick, step, step_by, play, start, last_time}
use Rattle.theory.specs.Course.{releases_at, releases_below, course_until}
use Rattle.theory.proofs.Courses.{step_keeps, play_append}
use Rattle.rehearsal.specs.FirstMiss.{course_at}

module _ (s : TaskSet) (o : Order) (i a : ℕ) where
  -- releases take no time
  release_time : (st : State) (j : ℕ) → (step s o st (release j)).time ≡ st.time
  release_time st j = step_keeps s o (λ z. z.time ≡ st.time) st (release j) refl (λ e. refl)

  releases_time : (t n : ℕ) (st : State) → (play s o st (releases_below s o i a t n)).time ≡ st.time
  unfolding releases_below play
  releases_time t zero st = refl
  releases_time t (suc n) st = ap (λ z. z.time) (play_append s o st (releases_below s o i a t n) (cond (releases_at s o i a n t) (release n ∷ []) [])) ∙ go (releases_at s o i a n t) ∙ releases_time t n st
    where
      go : (b : Bool) → (play s o (play s o st (releases_below s o i a t n)) (cond b (release n ∷ []) [])).time ≡ (play s o st (releases_below s o i a t n)).time
      go true = release_time (play s o st (releases_below s o i a t n)) n
      go false = refl

  tick_time : (st : State) → (step s o st (tick false)).time ≡ cond (leb last_time st.time) st.time (st.time + 1)
  unfolding step
  tick_time st = go (leb last_time st.time)
    where
      go : (b : Bool) → (step_by s o st (tick false) (cond b (Some TimeOver) None)).time ≡ cond b st.time (st.time + 1)
      go true = refl
      go false = refl

  -- the calls of one time, from the state at it
  pub one_tick : (t : ℕ) → course_at s o i a (suc t) ≡ play s o (course_at s o i a t) (releases_below s o i a t (task_count s) ++ (tick false ∷ []))
  unfolding course_until
  one_tick t = play_append s o start (course_until s o i a t) (releases_below s o i a t (task_count s) ++ (tick false ∷ []))

  tick_last : (st : State) (cs : List Call) → play s o st (cs ++ (tick false ∷ [])) ≡ step s o (play s o st cs) (tick false)
  unfolding play
  tick_last st cs = play_append s o st cs (tick false ∷ [])

  next_time : (t : ℕ) → (course_at s o i a (suc t)).time ≡ cond (leb last_time (course_at s o i a t).time) (course_at s o i a t).time ((course_at s o i a t).time + 1)
  next_time t =
      let here = course_at s o i a t in
      let ready = play s o here (releases_below s o i a t (task_count s)) in
      ap (λ z. z.time) (one_tick t ∙ tick_last here (releases_below s o i a t (task_count s))) ∙ tick_time ready ∙ ap (λ n. cond (leb last_time n) n (n + 1)) (releases_time t (task_count s) here)

  pub course_time : (t : ℕ) → (course_at s o i a t).time ≡ min t last_time
  unfolding course_until play
  course_time zero = omega arith
  course_time (suc t) = go (course_time t) (cases_lt (course_at s o i a t).time last_time) (next_time t)
    where
      go : (course_at s o i a t).time ≡ min t last_time → ((course_at s o i a t).time < last_time) ⊎ (last_time ≤ (course_at s o i a t).time)
          → (course_at s o i a (suc t)).time ≡ cond (leb last_time (course_at s o i a t).time) (course_at s o i a t).time ((course_at s o i a t).time + 1) → (course_at s o i a (suc t)).time ≡ min (suc t) last_time
      go so_far (inl lt) next = omega (arith, so_far, next ∙ cond-false (leb last_time (course_at s o i a t).time) _ _ (lt-leb last_time (course_at s o i a t).time lt))
      go so_far (inr le) next = omega (arith, so_far, next ∙ cond-true (leb last_time (course_at s o i a t).time) _ _ (le-leb last_time (course_at s o i a t).time le))
