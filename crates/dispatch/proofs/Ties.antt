-- A station that has answered some calls, one call later.
use Rattle.std.proofs.Common.{◌≡◌, ℕ, ◌+◌, ◌-◌, ◌<◌, ◌≤◌, Bool, true, false, cond, ◌&&◌, ◌||◌, ltb, leb, ◌⊎◌, List, [], ◌∷◌, ◌++◌, length, Some, None, Option, sym, refl, ap, ◌∙◌, subst, inl, inr, arith}
use Rattle.std.proofs.lemmas.Bool.Decides.{nat_tests as tells}
use Rattle.std.proofs.lemmas.Bool.{cases_eq, cond-true, cond-false, ne_eqb, le-leb}
use Rattle.table.specs.Rules.{TaskSet, Checked, task_at, task_count}
use Rattle.table.specs.declared.kinds.Mode.TheVariants.{NonPreemptive}
use Rattle.table.specs.declared.refusal.Refusal.{Refusal}
use Rattle.table.specs.declared.refusal.Refusal.TheVariants.{NoTaskToRun, TooSoon, QueueFull, TimeOver}
use Rattle.policy.specs.Answers.{ahead_answer}
use Rattle.policy.specs.Laws.{Lawful}
use Rattle.policy.specs.Order.{Order}
use Rattle.theory.specs.Lists.{In, any, how_many}
use Rattle.theory.specs.Machine as machine
use Rattle.theory.specs.Machine.{Work, State, Call, Answer, refusal, accept, reply, step, answer, play, start, waiting, of_task, ends, told, job_to_run, run_in, longest_line}
use Rattle.theory.proofs.Choice.{Choice, nobody, leader, kept, choice}
use Rattle.theory.proofs.Courses.{play_snoc}
use Rattle.theory.proofs.MachineFacts.{Facts, facts_after, facts_apart, all_known_waiting}
use Rattle.theory.proofs.Search.{none_some, some_same}
use Rattle.dispatch.specs.Advanced.{Advanced, Moves, Stays, stage_after, outcome_of, told_of}
use Rattle.dispatch.specs.Leading.{Picked}
use Rattle.dispatch.specs.Replies.{ticked_told}
use Rattle.dispatch.specs.Represents.{Represents, Fits, ran_first}
use Rattle.dispatch.specs.Summaries.{Summary, Pending, pending, summed, joined, moved, ends_now, counts_of}
use Rattle.dispatch.specs.declared.replies.Ticked.{Ticked}
use Rattle.dispatch.specs.declared.stage.Outcome.TheVariants.{Idled}
use Rattle.dispatch.specs.declared.stage.Stage.{Stage}
use Rattle.dispatch.specs.declared.stage.Stage.TheVariants.{Idle, Begun}
use Rattle.dispatch.proofs.Agreement.{Plain, First, Same, agree, nobody_fits}
use Rattle.dispatch.proofs.Counted.{counted_is}
use Rattle.dispatch.proofs.Served.{summed_apart, summed_served}
use Rattle.dispatch.proofs.Sources.{pending_of, summed_mine, summed_other, waiting_number, too_soon}

module _ (s : TaskSet) (o : Order) where
  -- a refused call, and an accepted one
  step_refused : (st : State) (c : Call) (e : Refusal) → refusal s st c ≡ Some e → (step s o st c ≡ st) × (answer s o st c ≡ machine.Refused e)
  unfolding step answer
  step_refused st c e h = (ap (λ r. machine.step_by s o st c r) h, ap (λ r. machine.answer_by s o st c r) h)

  step_accepted : (st : State) (c : Call) → refusal s st c ≡ None → (step s o st c ≡ accept s o st c) × (answer s o st c ≡ reply s o st c)
  unfolding step answer
  step_accepted st c h = (ap (λ r. machine.step_by s o st c r) h, ap (λ r. machine.answer_by s o st c r) h)

  -- what a call leaves: the state after it is stood for, and this is the answer
  pub record Next (calls : List Call) (c : Call) (time : ℕ) (b : ℕ → Summary) (stage : Stage) (given : Answer) : Type 0 where
    pub stands : Represents s time b stage (play s o start (calls ++ (c ∷ [])))
    pub tells : given ≡ answer s o (play s o start calls) c

  module _ (calls : List Call) (time : ℕ) (b : ℕ → Summary) (stage : Stage) (rep : Represents s time b stage (play s o start calls)) where
    pub next_refused : (c : Call) (e : Refusal) → refusal s (play s o start calls) c ≡ Some e → Next calls c time b stage (machine.Refused e)
    next_refused c e h =
        let r = step_refused (play s o start calls) c e h in
        record { stands = subst (Represents s time b stage) (sym (play_snoc s o start calls c ∙ r.0)) rep; tells = sym r.1 }

    next_accepted : (c : Call) → refusal s (play s o start calls) c ≡ None → (later : ℕ) (d : ℕ → Summary) (to : Stage) (given : Answer) → Represents s later d to (accept s o (play s o start calls) c) → given ≡ reply s o (play s o start calls) c → Next calls c later d to given
    next_accepted c h later d to given shows is =
        let r = step_accepted (play s o start calls) c h in
        record { stands = subst (Represents s later d to) (sym (play_snoc s o start calls c ∙ r.0)) shows; tells = is ∙ sym r.1 }

    -- no such task
    pub release_unknown : (j : ℕ) → task_count s ≤ j → Next calls (machine.release j) time b stage (machine.Refused (NoTaskToRun j))
    release_unknown j h = next_refused (machine.release j) (NoTaskToRun j) (cond-true (leb (task_count s) j) _ _ (le-leb (task_count s) j h))

    pub look_unknown : (j : ℕ) → task_count s ≤ j → Next calls (machine.look j) time b stage (machine.Refused (NoTaskToRun j))
    look_unknown j h = next_refused (machine.look j) (NoTaskToRun j) (cond-true (leb (task_count s) j) _ _ (le-leb (task_count s) j h))

    pub look_known : (j : ℕ) → j < task_count s → Next calls (machine.look j) time b stage (machine.Looked (counts_of (b j)))
    look_known j h = next_accepted (machine.look j) (cond-false (leb (task_count s) j) _ _ here) time b stage _ rep (ap (λ u. machine.Looked (counts_of u)) (rep.lines j h) ∙ ap machine.Looked (sym (counted_is s j (play s o start calls))))
      where
        here : leb (task_count s) j ≡ false
        here = grind (arith, tells)

    pub tick_over : (done : Bool) → 4000000000 ≤ time → Next calls (machine.tick done) time b stage (machine.Refused TimeOver)
    tick_over done h = next_refused (machine.tick done) TimeOver (cond-true (leb 4000000000 (play s o start calls).time) _ _ (le-leb 4000000000 (play s o start calls).time (omega (arith, rep.time))))

    module _ (checked : Checked s) (law : Lawful s o) where
      facts : Facts s (play s o start calls)
      facts = facts_after s o checked law calls

      module _ (j : ℕ) (known : j < task_count s) where
        inside : leb (task_count s) j ≡ false
        inside = grind (arith, tells)

        soon_is : any (λ w. of_task j w && ltb (play s o start calls).time (w.release + (task_at s j).period)) (play s o start calls).jobs ≡ ltb time (b j).free
        soon_is = too_soon s j (play s o start calls).time (play s o start calls).jobs facts.spaced ∙ ap (λ n. ltb n (summed s j (play s o start calls).jobs).free) (sym rep.time) ∙ ap (λ (u : Summary). ltb time u.free) (sym (rep.lines j known))

        full_is : leb longest_line (how_many (of_task j) (waiting (play s o start calls))) ≡ leb 8 (length (b j).waiting)
        full_is = ap (leb 8) (waiting_number s j (play s o start calls).jobs ∙ ap (λ (u : Summary). length u.waiting) (sym (rep.lines j known)))

        pub release_soon : ltb time (b j).free ≡ true → Next calls (machine.release j) time b stage (machine.Refused (TooSoon j))
        release_soon h = next_refused (machine.release j) (TooSoon j) (cond-false (leb (task_count s) j) _ _ inside ∙ cond-true _ _ _ (soon_is ∙ h))

        pub release_full : ltb time (b j).free ≡ false → leb 8 (length (b j).waiting) ≡ true → Next calls (machine.release j) time b stage (machine.Refused (QueueFull j))
        release_full h g = next_refused (machine.release j) (QueueFull j) (cond-false (leb (task_count s) j) _ _ inside ∙ cond-false _ _ _ (soon_is ∙ h) ∙ cond-true _ _ _ (full_is ∙ g))

        ran_first_more : (us : List Pending) (t : ℕ) → ran_first (us ++ (pending t 0 ∷ [])) ≡ ran_first us
        ran_first_more [] t = refl
        ran_first_more (u ∷ us) t = refl

        module _ (d : ℕ → Summary) (here : d j ≡ joined (task_at s j) time (b j)) (others : (k : ℕ) → (k ≡ j → ⊥) → d k ≡ b k) where
          first_same : (k : ℕ) → ran_first (d k).waiting ≡ ran_first (b k).waiting
          first_same k = go (cases_eq k j)
            where
              go : (k ≡ j) ⊎ (k ≡ j → ⊥) → ran_first (d k).waiting ≡ ran_first (b k).waiting
              go (inl e) = subst (λ i. ran_first (d i).waiting ≡ ran_first (b i).waiting) (sym e) (ap (λ (u : Summary). ran_first u.waiting) here ∙ ran_first_more (b j).waiting time)
              go (inr ne) = ap (λ (u : Summary). ran_first u.waiting) (others k ne)

          fits_same : (at : Stage) → Fits at (task_count s) b → Fits at (task_count s) d
          fits_same Idle h = λ k lt. first_same k ∙ h k lt
          fits_same (Begun i) (lt, on, rest) = (lt, subst (λ n. 1 ≤ n) (sym (first_same i)) on, λ k below ne. first_same k ∙ rest k below ne)

          abbrev new : Work
          new = record { task = j; release = (play s o start calls).time; ran = 0; finished = false; response = 0 }

          pub release_free : ltb time (b j).free ≡ false → leb 8 (length (b j).waiting) ≡ false → Next calls (machine.release j) time d stage (machine.Released time)
          release_free h g = next_accepted (machine.release j) (cond-false (leb (task_count s) j) _ _ inside ∙ cond-false _ _ _ (soon_is ∙ h) ∙ cond-false _ _ _ (full_is ∙ g)) time d stage (machine.Released time)
              (record { time = rep.time; lines = λ k lt. line k lt (cases_eq k j); stage = λ m. fits_same stage (rep.stage m) })
              (ap machine.Released rep.time)
            where
              line : (k : ℕ) → k < task_count s → (k ≡ j) ⊎ (k ≡ j → ⊥) → d k ≡ summed s k (new ∷ (play s o start calls).jobs)
              line k lt (inl e) = subst (λ i. d i ≡ summed s i (new ∷ (play s o start calls).jobs)) (sym e) (here ∙ ap (λ n. joined (task_at s j) n (b j)) rep.time ∙ ap (joined (task_at s j) (play s o start calls).time) (rep.lines j known) ∙ sym (summed_mine s j new (play s o start calls).jobs refl))
              line k lt (inr ne) = others k ne ∙ rep.lines k lt ∙ sym (summed_other s k new (play s o start calls).jobs (ne_eqb j k (λ e. ne (sym e))))

      -- an accepted tick
      module _ (done : Bool) (early : time < 4000000000) (plain : (j : ℕ) → j < task_count s → Plain (b j).waiting) (chosen : Option ℕ) (picked : Picked s.mode stage (ahead_answer s o) b (task_count s) chosen) (d : ℕ → Summary) (to : Stage) (given : Ticked) (moves : Advanced s (time + 1) b d stage to chosen done given) where
        soon : (play s o start calls).time ≤ 4000000000
        soon = omega (arith, rep.time)

        later_is : time + 1 ≡ (play s o start calls).time + 1
        later_is = ap (λ n. n + 1) rep.time

        nobody_waits : (r : Option Work) → Choice s.mode o (waiting (play s o start calls)) r → r ≡ None → (w : Work) → In w (waiting (play s o start calls)) → ⊥
        nobody_waits r (nobody none) e = none
        nobody_waits r (leader x m all none) e = absurd (none_some (sym e))
        nobody_waits r (kept x m q on) e = absurd (none_some (sym e))

        -- the state and the answer of the machine, where it runs r
        abbrev Moved : Option Work → Type 0
        Moved r = Represents s (time + 1) d to (record { time = (play s o start calls).time + 1; jobs = run_in s done ((play s o start calls).time + 1) r (play s o start calls).jobs }) × (ticked_told given ≡ told s done ((play s o start calls).time + 1) r)

        idles : Choice s.mode o (waiting (play s o start calls)) None → Stays s b d stage to given → Moved None
        idles ch stays = (record { time = later_is; lines = λ k lt. stays.lines k ∙ rep.lines k lt; stage = λ m. subst (λ at. Fits at (task_count s) d) (sym (stays.stage ∙ ap (λ n. stage_after n stage Idled) m)) (λ k lt. ap (λ (u : Summary). ran_first u.waiting) (stays.lines k) ∙ nobody_fits s o checked law (play s o start calls) facts soon b rep.lines plain (nobody_waits None ch refl) k lt) }, ap ticked_told stays.told)

        -- no other line has a begun job
        others_zero : (i : ℕ) → chosen ≡ Some i → s.mode ≡ NonPreemptive → (k : ℕ) → k < task_count s → (k ≡ i → ⊥) → ran_first (b k).waiting ≡ 0
        others_zero i c m k lt ne = go stage (rep.stage m) (subst (λ n. Picked n stage (ahead_answer s o) b (task_count s) chosen) m picked)
          where
            go : (at : Stage) → Fits at (task_count s) b → Picked NonPreemptive at (ahead_answer s o) b (task_count s) chosen → ran_first (b k).waiting ≡ 0
            go Idle fits p = fits k lt
            go (Begun l) (in_table, on, rest) p = rest k lt (λ e. ne (e ∙ some_same (sym p ∙ c)))

        module _ (x : Work) (i : ℕ) (c : chosen ≡ Some i) (first : First s o checked law (play s o start calls) facts soon b rep.lines plain x i) where
          abbrev over : Bool
          over = ends_now (task_at s i) done (pending_of x)

          mv : Moves s (time + 1) b d stage to i over (pending_of x) first.rest given
          mv = moves.ran i (pending_of x) first.rest c first.known first.waiting

          line : (k : ℕ) → k < task_count s → (k ≡ i) ⊎ (k ≡ i → ⊥) → d k ≡ summed s k (run_in s done ((play s o start calls).time + 1) (Some x) (play s o start calls).jobs)
          line k lt (inr ne) = mv.others k ne ∙ rep.lines k lt ∙ sym (summed_apart s done ((play s o start calls).time + 1) x k (λ e. ne (sym e ∙ first.mine)) (play s o start calls).jobs)
          line k lt (inl e) = subst (λ j. d j ≡ summed s j (run_in s done ((play s o start calls).time + 1) (Some x) (play s o start calls).jobs)) (sym e)
              (mv.here
              ∙ ap (λ n. moved (task_at s i) over n (pending_of x) first.rest (b i)) later_is
              ∙ ap (λ u. moved (task_at s i) over ((play s o start calls).time + 1) (pending_of x) first.rest u) (rep.lines i first.known)
              ∙ sym (summed_served s done ((play s o start calls).time + 1) x i (pending_of x) first.rest first.mine refl (play s o start calls).jobs (facts_apart s (play s o start calls) checked facts) (sym (ap (λ (u : Summary). u.waiting) (rep.lines i first.known)) ∙ first.waiting)))

          rest_zero : (us : List Pending) → ((q : Pending) → In q us → q.ran ≡ 0) → ran_first us ≡ 0
          rest_zero [] h = refl
          rest_zero (u ∷ us) h = h u (inl refl)

          fits : s.mode ≡ NonPreemptive → (v : Bool) → d i ≡ moved (task_at s i) v (time + 1) (pending_of x) first.rest (b i) → Fits (stage_after NonPreemptive stage (outcome_of v i)) (task_count s) d
          fits m true h = λ k lt. at k lt (cases_eq k i)
            where
              at : (k : ℕ) → k < task_count s → (k ≡ i) ⊎ (k ≡ i → ⊥) → ran_first (d k).waiting ≡ 0
              at k lt (inl e) = subst (λ j. ran_first (d j).waiting ≡ 0) (sym e) (ap (λ (u : Summary). ran_first u.waiting) h ∙ rest_zero first.rest (plain i first.known (pending_of x) first.rest first.waiting))
              at k lt (inr ne) = ap (λ (u : Summary). ran_first u.waiting) (mv.others k ne) ∙ others_zero i c m k lt ne
          fits m false h = (first.known, subst (λ n. 1 ≤ n) (sym (ap (λ (u : Summary). ran_first u.waiting) h)) (omega arith), λ k lt ne. ap (λ (u : Summary). ran_first u.waiting) (mv.others k ne) ∙ others_zero i c m k lt ne)

          told_both : (v : Bool) (j r later : ℕ) → ticked_told (told_of v j r later) ≡ cond v (machine.Finished j r (later - r)) (machine.Ran j r)
          told_both true j r later = refl
          told_both false j r later = refl

          over_is : over ≡ ends s done x
          over_is = sym (ap (λ k. done || leb (task_at s k).cost (x.ran + 1)) first.mine)

          runs : Moved (Some x)
          runs = (
            record { time = later_is; lines = λ k lt. line k lt (cases_eq k i); stage = λ m. subst (λ at. Fits at (task_count s) d) (sym (mv.stage ∙ ap (λ n. stage_after n stage (outcome_of over i)) m)) (fits m over mv.here) },
            ap ticked_told mv.told
                ∙ told_both over i x.release (time + 1)
                ∙ ap (λ v. cond v (machine.Finished i x.release (time + 1 - x.release)) (machine.Ran i x.release)) over_is
                ∙ ap (λ j. cond (ends s done x) (machine.Finished j x.release (time + 1 - x.release)) (machine.Ran j x.release)) (sym first.mine)
                ∙ ap (λ n. cond (ends s done x) (machine.Finished x.task x.release (n - x.release)) (machine.Ran x.task x.release)) later_is,
          )

        both : (r : Option Work) → Choice s.mode o (waiting (play s o start calls)) r → (c : Option ℕ) → chosen ≡ c → Same s o checked law (play s o start calls) facts soon b rep.lines plain r c → Moved r
        both None ch None e same = idles ch (moves.idle e)
        both None ch (Some i) e same = absurd same
        both (Some x) ch None e same = absurd same
        both (Some x) ch (Some i) e same = runs x i e same

        choose : Choice s.mode o (waiting (play s o start calls)) (job_to_run s.mode o (waiting (play s o start calls)))
        choose = choice s o law s.mode (waiting (play s o start calls)) (all_known_waiting s o checked law (play s o start calls) facts)

        pub tick_moves : Next calls (machine.tick done) (time + 1) d to (ticked_told given)
        tick_moves =
            let r = both (job_to_run s.mode o (waiting (play s o start calls))) choose chosen refl (agree s o checked law (play s o start calls) facts soon b rep.lines plain s.mode stage rep.stage (job_to_run s.mode o (waiting (play s o start calls))) choose chosen picked) in
            next_accepted (machine.tick done) (cond-false (leb 4000000000 (play s o start calls).time) _ _ on_time) (time + 1) d to (ticked_told given) r.0 r.1
          where
            open_until : (n : ℕ) → n < 4000000000 → leb 4000000000 n ≡ false
            open_until n h = grind (arith, tells)

            on_time : leb 4000000000 (play s o start calls).time ≡ false
            on_time = open_until (play s o start calls).time (omega (arith, rep.time))
