-- In an admitted task set the worst course of a task is taken whole, and its last tick finishes the job with the worst response.
use Rattle.std.proofs.Common.{◌≡◌, ℕ, zero, suc, ◌+◌, ◌-◌, ◌<◌, ◌≤◌, true, false, ◌⊎◌, List, [], ◌∷◌, ◌++◌, Some, None, Option, sym, refl, ap, ◌∙◌, subst, inl, inr, append_assoc, le_refl, arith}
use Rattle.std.proofs.lemmas.Bool.{cases_Bool, cond-true}
use Rattle.table.specs.Rules.{TaskSet, Checked, task_count}
use Rattle.table.specs.declared.refusal.Refusal.{Refusal}
use Rattle.table.proofs.Ranges.{task_ranges}
use Rattle.policy.specs.Order.{Order}
use Rattle.policy.specs.Laws.{Lawful}
use Rattle.theory.specs.BusyPeriod.{BusyPeriod}
use Rattle.theory.specs.Lists.{In}
use Rattle.theory.specs.Machine.{Work, State, tick, Answer, Refused, Finished, Ran, refusal, accept, ends, told, waiting, job_to_run, run_in, run_one, same_work, play, answers, start}
use Rattle.theory.specs.Course.{lead, releases_below, course_until, worst_course}
use Rattle.theory.specs.Worst.{Worst}
use Rattle.theory.specs.Guarantee.{NeverLonger, Attained}
use Rattle.theory.proofs.Search.{in_map}
use Rattle.theory.proofs.Works.{given, given_task, given_release}
use Rattle.theory.proofs.Choice.{Choice, nobody, leader, kept, choice}
use Rattle.theory.proofs.Courses.{play_append}
use Rattle.theory.proofs.MachineFacts.{waits_of, waits_in, all_known_waiting, given_cases}
use Rattle.theory.proofs.Accepted.{Accepted, step_accept, answer_accept, answers_join, accepted_plain, accepted_front, accepted_back}
use Rattle.theory.proofs.Stage.{Stage, staged, staged_releases}
use Rattle.theory.proofs.Slow.{Slow, slow_at}
use Rattle.theory.proofs.Follow.{follow, at_time, at_release, OverdueBy}
use Rattle.theory.proofs.Present.{TheJob, present_now, lead_small, response_low}
use Rattle.theory.proofs.Late.{misses_late, overdue_misses}

-- the last tick: the job waits before it, and no such job waits after it
module _ (s : TaskSet) (o : Order) (checked : Checked s) (law : Lawful s o) (i A r t : ℕ) (end : A + r ≡ suc t) (st : State) (m : ℕ) (a : ℕ) (g : Stage s o i a t m st)
    (w : Work) (inside : In w st.jobs) (w_task : w.task ≡ i) (w_release : w.release ≡ A) (waits_w : w.finished ≡ false) where
  finishes : (x : Option Work) → Choice s.mode o (waiting st) x → ((u : Work) → In u (run_in s false (st.time + 1) x st.jobs) → u.task ≡ i → u.release ≡ A → u.finished ≡ false → ⊥) → told s false (st.time + 1) x ≡ Finished i A r
  finishes x c gone = go x c gone
    where
      run : (x : Work) → In x (waiting st) → ((u : Work) → In u (run_in s false (st.time + 1) (Some x) st.jobs) → u.task ≡ i → u.release ≡ A → u.finished ≡ false → ⊥) → told s false (st.time + 1) (Some x) ≡ Finished i A r
      run x k over = two (given_cases s o checked law st false g.facts x (waits_of st x k).0 (waits_of st x k).1 w inside)
        where
          after : In (given s false (st.time + 1) x w) (run_in s false (st.time + 1) (Some x) st.jobs)
          after = in_map (given s false (st.time + 1) x) st.jobs w inside

          stays : (given s false (st.time + 1) x w).finished ≡ false → ⊥
          stays h = over (given s false (st.time + 1) x w) after (given_task s false (st.time + 1) x w ∙ w_task) (given_release s false (st.time + 1) x w ∙ w_release) h

          two : ((w ≡ x) × (given s false (st.time + 1) x w ≡ run_one s false (st.time + 1) x)) ⊎ ((same_work w x ≡ false) × (given s false (st.time + 1) x w ≡ w)) → told s false (st.time + 1) (Some x) ≡ Finished i A r
          two (inr (d, y)) = absurd (stays (ap (λ (v : Work). v.finished) y ∙ waits_w))
          two (inl (d, y)) = three (cases_Bool (ends s false x))
            where
              three : (ends s false x ≡ true) ⊎ (ends s false x ≡ false) → told s false (st.time + 1) (Some x) ≡ Finished i A r
              three (inr e) = absurd (stays (ap (λ (v : Work). v.finished) y ∙ e))
              three (inl e) =
                  let p : x.task ≡ i = sym (ap (λ (v : Work). v.task) d) ∙ w_task in
                  let q : x.release ≡ A = sym (ap (λ (v : Work). v.release) d) ∙ w_release in
                  let z : (st.time + 1) - x.release ≡ r = omega (arith, g.now) in
                  cond-true (ends s false x) (Finished x.task x.release ((st.time + 1) - x.release)) (Ran x.task x.release) e ∙ cc (p, q, z)

      go : (x : Option Work) → Choice s.mode o (waiting st) x → ((u : Work) → In u (run_in s false (st.time + 1) x st.jobs) → u.task ≡ i → u.release ≡ A → u.finished ≡ false → ⊥) → told s false (st.time + 1) x ≡ Finished i A r
      go x (nobody n) over = absurd (n w (waits_in st w inside waits_w))
      go x (leader y k all none) over = run y k over
      go x (kept y k q b) over = run y k over

module _ (s : TaskSet) (o : Order) (L : ℕ) (checked : Checked s) (law : Lawful s o) (never : NeverLonger s o L) (i r a : ℕ) (hi : i < task_count s) (worst : Worst s o L i r a) where
  -- the answers of a course up to lead + a + r end with the job's finish
  last : (t : ℕ) → lead s o i a + a + r ≡ suc t → Accepted s o start (course_until s o i a (suc t)) → (before : List Answer) × (answers s o start (course_until s o i a (suc t)) ≡ before ++ (Finished i (lead s o i a + a) r ∷ []))
  unfolding course_until answers play
  last t end acc = (
    answers s o start (course_until s o i a t) ++ answers s o (at_time s o checked law i a t) (releases_below s o i a t (task_count s)),
    answers_join s o start (course_until s o i a t) (releases_below s o i a t (task_count s) ++ (tick false ∷ []))
        ∙ ap (λ zs. answers s o start (course_until s o i a t) ++ zs) (answers_join s o st₀ (releases_below s o i a t (task_count s)) (tick false ∷ []))
        ∙ sym (append_assoc (answers s o start (course_until s o i a t)) _ _)
        ∙ ap (λ x. (answers s o start (course_until s o i a t) ++ answers s o st₀ (releases_below s o i a t (task_count s))) ++ (x ∷ [])) (answer_accept s o st₁ (tick false) free ∙ finish),
  )
    where
      st₀ : State
      st₀ = at_time s o checked law i a t

      st₁ : State
      st₁ = at_release s o checked law i a t (task_count s)

      rest : Accepted s o st₀ (releases_below s o i a t (task_count s) ++ (tick false ∷ []))
      rest = accepted_back s o start (course_until s o i a t) _ acc

      free : refusal s st₁ (tick false) ≡ None
      free = (accepted_back s o st₀ (releases_below s o i a t (task_count s)) _ rest).0

      slow : Slow s o i a r
      slow = slow_at s o checked law i a r hi worst.given

      here : Stage s o i a t (task_count s) st₁ × slow.Inv t st₁.jobs
      here = staged_releases s o checked law i a slow.Inv slow.keeps t (task_count s) st₀ (le_refl _) (staged s o checked law i a slow.Inv slow.keeps t (accepted_front s o start (course_until s o i a t) _ acc)) (accepted_front s o st₀ (releases_below s o i a t (task_count s)) _ rest)

      arrive : play s o start (course_until s o i a (suc t)) ≡ accept s o st₁ (tick false)
      arrive = play_append s o start (course_until s o i a t) _ ∙ play_append s o st₀ (releases_below s o i a t (task_count s)) (tick false ∷ []) ∙ step_accept s o st₁ (tick false) free

      over : (u : Work) → In u (run_in s false (st₁.time + 1) (job_to_run s.mode o (waiting st₁)) st₁.jobs) → u.task ≡ i → u.release ≡ lead s o i a + a → u.finished ≡ false → ⊥
      over u m e d h = omega (arith, never (course_until s o i a (suc t)) u r a (subst (λ z. In u z.jobs) (sym arrive) m) h (subst (λ j. Worst s o L j r a) (sym e) worst), ap (λ (z : State). z.time) arrive, here.0.now)

      finish : told s false (st₁.time + 1) (job_to_run s.mode o (waiting st₁)) ≡ Finished i (lead s o i a + a) r
      finish = go (present_now s o i a hi checked law t st₁ here.0 (omega (arith, response_low s.mode s o i a r worst.given, (task_ranges s checked i hi).cost_low)))
        where
          go : TheJob s o i a hi st₁.jobs → told s false (st₁.time + 1) (job_to_run s.mode o (waiting st₁)) ≡ Finished i (lead s o i a + a) r
          go (w, m, e, d) = two (cases_Bool w.finished)
            where
              two : (w.finished ≡ true) ⊎ (w.finished ≡ false) → told s false (st₁.time + 1) (job_to_run s.mode o (waiting st₁)) ≡ Finished i (lead s o i a + a) r
              two (inl h) = absurd (omega (arith, slow.slow t (task_count s) st₁ here.0 here.1 w m e d h))
              two (inr h) = finishes s o checked law i (lead s o i a + a) r t end st₁ (task_count s) a here.0 w m e d h (job_to_run s.mode o (waiting st₁)) (choice s o law s.mode (waiting st₁) (all_known_waiting s o checked law st₁ here.0.facts)) over

pub attained : (s : TaskSet) (o : Order) (L : ℕ) → Checked s → Lawful s o → BusyPeriod s L → L ≤ 60000 → NeverLonger s o L → Attained s o L
attained s o L checked law busy small never admitted i r a hi worst = go (follow s o checked law i a (lead s o i a + a + r) (omega (arith, lead_small s o i a, worst.inside, admitted i r a hi worst, (task_ranges s checked i hi).deadline_high)))
  where
    ending : (n : ℕ) → lead s o i a + a + r ≡ n → Accepted s o start (course_until s o i a n) → (before : List Answer) × (answers s o start (course_until s o i a n) ≡ before ++ (Finished i (lead s o i a + a) r ∷ []))
    ending zero e acc = absurd (omega (arith, response_low s.mode s o i a r worst.given, (task_ranges s checked i hi).cost_low))
    ending (suc t) e acc = last s o L checked law never i r a hi worst t e acc

    go : Accepted s o start (course_until s o i a (lead s o i a + a + r)) ⊎ OverdueBy s o checked law i a (lead s o i a + a + r)
        → ((e : Refusal) → In (Refused e) (answers s o start (worst_course s o i a r)) → ⊥) × ((before : List Answer) × (answers s o start (worst_course s o i a r) ≡ before ++ (Finished i (lead s o i a + a) r ∷ [])))
    go (inr miss) = let late = misses_late s o L checked law busy never (overdue_misses s o L checked law busy i a (lead s o i a + a + r) miss) in absurd (omega (arith, admitted late.0 late.1 late.2 late.3 late.4, late.5))
    go (inl acc) = (accepted_plain s o start (course_until s o i a (lead s o i a + a + r)) acc, ending (lead s o i a + a + r) refl acc)
