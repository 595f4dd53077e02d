-- Along a worst course of which nothing is refused: the jobs are those that the course tells, and each finished one has run its C.
use Rattle.std.proofs.Common.{◌≡◌, ℕ, suc, ◌+◌, ◌<◌, ◌≤◌, Bool, true, false, cond, ◌&&◌, eqb, ltb, ◌⊎◌, List, [], ◌∷◌, map, None, Option, sym, refl, ap, ◌∙◌, subst, inl, inr, arith}
use Rattle.std.proofs.lemmas.Bool.{cases_eq, cases_Bool, cond-false, eq-eqb, ne_eqb, lt-ltb, le-ltb, ltb-true, ltb-false, leb-true, and_left, and_right, both_ways}
use Rattle.table.specs.Rules.{TaskSet, Checked, task_at, task_count}
use Rattle.policy.specs.Order.{Order}
use Rattle.policy.specs.Laws.{Lawful}
use Rattle.theory.specs.Sums.{count_below}
use Rattle.theory.specs.Lists.{In}
use Rattle.theory.specs.Machine.{Work, State, release, tick, refusal, accept, start, play, waiting, job_to_run, run_in, run_one, same_work}
use Rattle.theory.specs.Course.{releases_at, releases_below, course_until}
use Rattle.theory.proofs.Search.{from_map}
use Rattle.theory.proofs.Works.{total, total_map, total_cong, served_given, given, given_tests, Test, tests, number}
use Rattle.theory.proofs.Choice.{Choice, nobody, leader, kept, choice}
use Rattle.theory.proofs.MachineFacts.{Facts, facts_start, facts_accept, facts_tick, facts_apart, waits_of, all_known_waiting, given_cases}
use Rattle.theory.proofs.Accepted.{Accepted}
use Rattle.theory.proofs.Along.{along, along_releases}
use Rattle.theory.proofs.Pressed.{AsTold}

-- at time t, with the releases of the tasks below m made
pub record Stage (s : TaskSet) (o : Order) (i a t m : ℕ) (st : State) : Type 0 where
  pub now : st.time ≡ t
  pub facts : Facts s st
  pub counted : (j : ℕ) → j < task_count s → (p : ℕ → Bool) → number (λ k r. eqb k j && p r) st.jobs ≡ count_below t (λ u. releases_at s o i a j u && p u) + cond (ltb j m && (releases_at s o i a j t && p t)) 1 0
  pub worked : total (λ w. w.ran) st.jobs ≤ t
  pub full : (w : Work) → In w st.jobs → w.finished ≡ true → (task_at s w.task).cost ≤ w.ran

pub number_given : (s : TaskSet) (done : Bool) (later : ℕ) (x : Work) (p : Test) (ws : List Work) → number p (map (given s done later x) ws) ≡ number p ws
number_given s done later x p ws =
    total_map (λ w. cond (tests p w) 1 0) (given s done later x) ws
    ∙ total_cong (λ w. cond (tests p (given s done later x w)) 1 0) (λ w. cond (tests p w) 1 0) ws (λ w m. ap {B = ℕ} (λ b. cond b 1 0) (given_tests s done later x w p))

module _ (s : TaskSet) (o : Order) (checked : Checked s) (law : Lawful s o) (i a : ℕ) where
  -- one more task is looked at
  room : (t m j : ℕ) (p : ℕ → Bool) → (j ≡ m → ⊥) → (ltb j (suc m) && (releases_at s o i a j t && p t)) ≡ (ltb j m && (releases_at s o i a j t && p t))
  room t m j p ne = ap (λ b. b && (releases_at s o i a j t && p t)) (same (cases_Bool (ltb j m)))
    where
      same : (ltb j m ≡ true) ⊎ (ltb j m ≡ false) → ltb j (suc m) ≡ ltb j m
      same (inl e) = lt-ltb j (suc m) (omega (arith, ltb-true j m e)) ∙ sym e
      same (inr e) = le-ltb j (suc m) (omega (arith, ne, ltb-false j m e)) ∙ sym e

  none_yet : (j t : ℕ) (p : ℕ → Bool) → ◌≡◌ {A = ℕ} (cond (ltb j 0 && (releases_at s o i a j t && p t)) 1 0) 0
  none_yet j t p = cond-false {A = ℕ} (ltb j 0 && (releases_at s o i a j t && p t)) 1 0 (and_left _ _ (le-ltb j 0 (omega arith)))

  stage_start : Stage s o i a 0 0 start
  unfolding total count_below
  stage_start = record { now = refl; facts = facts_start s o checked law; counted = λ j hj p. omega (arith, none_yet j 0 p); worked = omega arith; full = λ w m. absurd m }

  stage_released : (t m : ℕ) (st : State) → m < task_count s → Stage s o i a t m st → releases_at s o i a m t ≡ true → refusal s st (release m) ≡ None → Stage s o i a t (suc m) (accept s o st (release m))
  unfolding total
  stage_released t m st hm g e free = record {
    now = g.now;
    facts = facts_accept s o checked law st (release m) g.facts free;
    counted = λ j hj p. counted j p (g.counted j hj p) (cases_eq j m);
    worked = omega (arith, g.worked);
    full = λ w k. full w k;
  }
    where
      new : Work
      new = record { task = m; release = st.time; ran = 0; finished = false; response = 0 }

      full : (w : Work) → (w ≡ new) ⊎ In w st.jobs → w.finished ≡ true → (task_at s w.task).cost ≤ w.ran
      full w (inl q) h = absurd (both_ways w.finished (ap (λ z. z.finished) q) h)
      full w (inr k) h = g.full w k h

      counted : (j : ℕ) (p : ℕ → Bool) → number (λ k r. eqb k j && p r) st.jobs ≡ count_below t (λ u. releases_at s o i a j u && p u) + cond (ltb j m && (releases_at s o i a j t && p t)) 1 0 → (j ≡ m) ⊎ (j ≡ m → ⊥)
          → cond (eqb m j && p st.time) 1 0 + number (λ k r. eqb k j && p r) st.jobs ≡ count_below t (λ u. releases_at s o i a j u && p u) + cond (ltb j (suc m) && (releases_at s o i a j t && p t)) 1 0
      counted j p ih (inl q) =
          let left : (eqb m j && p st.time) ≡ p t = ap (λ b. b && p st.time) (eq-eqb m j (sym q)) ∙ ap p g.now in
          let right : (ltb j (suc m) && (releases_at s o i a j t && p t)) ≡ p t = ap (λ b. b && (releases_at s o i a j t && p t)) (lt-ltb j (suc m) (omega arith)) ∙ ap (λ k. releases_at s o i a k t && p t) q ∙ ap (λ b. b && p t) e in
          omega (arith, ap {B = ℕ} (λ b. cond b 1 0) left, ap {B = ℕ} (λ b. cond b 1 0) right, cond-false {A = ℕ} (ltb j m && (releases_at s o i a j t && p t)) 1 0 (and_left _ _ (le-ltb j m (omega arith))))
      counted j p ih (inr ne) = omega (arith, cond-false {A = ℕ} (eqb m j && p st.time) 1 0 (and_left _ _ (ne_eqb m j (λ q. ne (sym q)))), ap {B = ℕ} (λ b. cond b 1 0) (room t m j p ne))

  stage_passed : (t m : ℕ) (st : State) → m < task_count s → Stage s o i a t m st → releases_at s o i a m t ≡ false → Stage s o i a t (suc m) st
  stage_passed t m st hm g e = record { now = g.now; facts = g.facts; worked = g.worked; full = g.full; counted = λ j hj p. g.counted j hj p ∙ ap (λ b. count_below t (λ u. releases_at s o i a j u && p u) + cond b 1 0) (sym (same j p (cases_eq j m))) }
    where
      same : (j : ℕ) (p : ℕ → Bool) → (j ≡ m) ⊎ (j ≡ m → ⊥) → (ltb j (suc m) && (releases_at s o i a j t && p t)) ≡ (ltb j m && (releases_at s o i a j t && p t))
      same j p (inr ne) = room t m j p ne
      same j p (inl q) = and_right (ltb j (suc m)) _ none ∙ sym (and_right (ltb j m) _ none)
        where
          none : (releases_at s o i a j t && p t) ≡ false
          none = and_left _ _ (ap (λ k. releases_at s o i a k t) q ∙ e)

  -- all releases at t made
  pub stage_told : (t : ℕ) (st : State) → Stage s o i a t (task_count s) st → AsTold s o i a t st.jobs
  unfolding count_below
  stage_told t st g j hj p = g.counted j hj p ∙ ap (λ b. count_below t (λ u. releases_at s o i a j u && p u) + cond b 1 0) (ap (λ b. b && (releases_at s o i a j t && p t)) (lt-ltb j (task_count s) hj))

  stage_ticked : (t : ℕ) (st : State) → Stage s o i a t (task_count s) st → Stage s o i a (suc t) 0 (accept s o st (tick false))
  stage_ticked t st g = go (job_to_run s.mode o (waiting st)) (choice s o law s.mode (waiting st) (all_known_waiting s o checked law st g.facts)) (facts_tick s o checked law st false g.facts)
    where
      run : (x : Work) → In x st.jobs → x.finished ≡ false → Facts s (record { time = st.time + 1; jobs = map (given s false (st.time + 1) x) st.jobs }) → Stage s o i a (suc t) 0 (record { time = st.time + 1; jobs = map (given s false (st.time + 1) x) st.jobs })
      run x m h f = record {
        now = omega (arith, g.now);
        facts = f;
        counted = λ j hj p. omega (arith, number_given s false (st.time + 1) x (λ k r. eqb k j && p r) st.jobs, stage_told t st g j hj p, none_yet j (suc t) p);
        worked = omega (arith, served_given s false (st.time + 1) x (λ k r. true) st.jobs (facts_apart s st checked g.facts) m, g.worked);
        full = λ w k e. full w e (from_map (given s false (st.time + 1) x) st.jobs w k);
      }
        where
          full : (w : Work) → w.finished ≡ true → (u : Work) × In u st.jobs × (w ≡ given s false (st.time + 1) x u) → (task_at s w.task).cost ≤ w.ran
          full w e (u, k, q) = at (given_cases s o checked law st false g.facts x m h u k)
            where
              at : ((u ≡ x) × (given s false (st.time + 1) x u ≡ run_one s false (st.time + 1) x)) ⊎ ((same_work u x ≡ false) × (given s false (st.time + 1) x u ≡ u)) → (task_at s w.task).cost ≤ w.ran
              at (inl (d, y)) = subst (λ z. (task_at s z.task).cost ≤ z.ran) (sym (q ∙ y)) (leb-true (task_at s x.task).cost (x.ran + 1) (sym (ap (λ z. z.finished) (q ∙ y)) ∙ e))
              at (inr (d, y)) = subst (λ z. (task_at s z.task).cost ≤ z.ran) (sym (q ∙ y)) (g.full u k (sym (ap (λ z. z.finished) (q ∙ y)) ∙ e))

      go : (r : Option Work) → Choice s.mode o (waiting st) r → Facts s (record { time = st.time + 1; jobs = run_in s false (st.time + 1) r st.jobs }) → Stage s o i a (suc t) 0 (record { time = st.time + 1; jobs = run_in s false (st.time + 1) r st.jobs })
      go r (nobody n) f = record { now = omega (arith, g.now); facts = f; counted = λ j hj p. omega (arith, stage_told t st g j hj p, none_yet j (suc t) p); worked = omega (arith, g.worked); full = g.full }
      go r (leader x m all none) f = run x (waits_of st x m).0 (waits_of st x m).1 f
      go r (kept x m q b) f = run x (waits_of st x m).0 (waits_of st x m).1 f

-- what releases and ticks keep of the jobs holds at every stage, beside the stage itself
pub record Keeps (s : TaskSet) (o : Order) (i a : ℕ) (Inv : ℕ → List Work → Type 0) : Type 0 where
  pub first : Inv 0 []
  pub released : (t m : ℕ) (st : State) → Stage s o i a t m st → Inv t st.jobs → Inv t (record { task = m; release = st.time; ran = 0; finished = false; response = 0 } ∷ st.jobs)
  pub ticked : (t : ℕ) (st : State) → Stage s o i a t (task_count s) st → Inv t st.jobs → (r : Option Work) → Choice s.mode o (waiting st) r → Inv (suc t) (run_in s false (st.time + 1) r st.jobs)

module _ (s : TaskSet) (o : Order) (checked : Checked s) (law : Lawful s o) (i a : ℕ) (Inv : ℕ → List Work → Type 0) (keeps : Keeps s o i a Inv) where
  abbrev pub Staged : ℕ → ℕ → State → Type 0
  Staged t m st = Stage s o i a t m st × Inv t st.jobs

  now_released : (t m : ℕ) (st : State) → m < task_count s → Staged t m st → releases_at s o i a m t ≡ true → refusal s st (release m) ≡ None → Staged t (suc m) (accept s o st (release m))
  now_released t m st hm (g, v) e free = (stage_released s o checked law i a t m st hm g e free, keeps.released t m st g v)

  now_passed : (t m : ℕ) (st : State) → m < task_count s → Staged t m st → releases_at s o i a m t ≡ false → Staged t (suc m) st
  now_passed t m st hm (g, v) e = (stage_passed s o checked law i a t m st hm g e, v)

  now_ticked : (t : ℕ) (st : State) → Staged t (task_count s) st → Staged (suc t) 0 (accept s o st (tick false))
  now_ticked t st (g, v) = (stage_ticked s o checked law i a t st g, keeps.ticked t st g v (job_to_run s.mode o (waiting st)) (choice s o law s.mode (waiting st) (all_known_waiting s o checked law st g.facts)))

  pub staged : (t : ℕ) → Accepted s o start (course_until s o i a t) → Staged t 0 (play s o start (course_until s o i a t))
  staged = along s o i a Staged (stage_start s o checked law i a, keeps.first) now_released now_passed now_ticked

  pub staged_releases : (t m : ℕ) (st : State) → m ≤ task_count s → Staged t 0 st → Accepted s o st (releases_below s o i a t m) → Staged t m (play s o st (releases_below s o i a t m))
  staged_releases = along_releases s o i a Staged (stage_start s o checked law i a, keeps.first) now_released now_passed now_ticked
