-- A job that is unfinished at or past its deadline was unfinished at it: cut the course there.
use Rattle.std.proofs.Common.{◌≡◌, ℕ, ◌+◌, ◌<◌, ◌≤◌, false, ◌⊎◌, List, [], ◌∷◌, ◌++◌, map, Option, sym, refl, ap, ◌∙◌, subst, inl, inr, arith}
use Rattle.std.proofs.lemmas.Bool.{cases_eq}
use Rattle.table.specs.Rules.{TaskSet, Checked, task_at}
use Rattle.table.proofs.Ranges.{task_ranges}
use Rattle.policy.specs.Order.{Order}
use Rattle.policy.specs.Laws.{Lawful}
use Rattle.theory.specs.Lists.{In}
use Rattle.theory.specs.Machine.{Work, State, Call, release, tick, look, accept, step, play, start, waiting, job_to_run, run_in, run_one, same_work}
use Rattle.theory.specs.Guarantee.{after, Misses}
use Rattle.theory.proofs.Search.{from_map}
use Rattle.theory.proofs.Works.{given}
use Rattle.theory.proofs.Choice.{Choice, nobody, leader, kept, choice}
use Rattle.theory.proofs.Courses.{step_keeps, play_append}
use Rattle.theory.proofs.MachineFacts.{Facts, facts_accept, facts_after, waits_of, all_known_waiting, given_cases}

module _ (s : TaskSet) (o : Order) (checked : Checked s) (law : Lawful s o) where
  -- a call moves the time by one at most
  pub moves : (st : State) (c : Call) → (st.time ≤ (step s o st c).time) × ((step s o st c).time ≤ st.time + 1)
  moves st c = step_keeps s o (λ z. (st.time ≤ z.time) × (z.time ≤ st.time + 1)) st c (omega arith, omega arith) (λ e. accepted c)
    where
      accepted : (c : Call) → (st.time ≤ (accept s o st c).time) × ((accept s o st c).time ≤ st.time + 1)
      accepted (release j) = (omega arith, omega arith)
      accepted (tick done) = (omega arith, omega arith)
      accepted (look j) = (omega arith, omega arith)

  -- every time on the way is reached by a front of the calls
  reach : (target : ℕ) (st : State) (cs : List Call) → st.time ≤ target → target ≤ (play s o st cs).time → (mid : List Call) × (rest : List Call) × (cs ≡ mid ++ rest) × ((play s o st mid).time ≡ target)
  unfolding play
  reach target st [] low high = ([], [], refl, omega arith)
  reach target st (c ∷ cs) low high = go (cases_eq st.time target) (λ up. reach target (step s o st c) cs up high)
    where
      go : (st.time ≡ target) ⊎ (st.time ≡ target → ⊥) → ((step s o st c).time ≤ target → (mid : List Call) × (rest : List Call) × (cs ≡ mid ++ rest) × ((play s o (step s o st c) mid).time ≡ target))
          → (mid : List Call) × (rest : List Call) × (c ∷ cs ≡ mid ++ rest) × ((play s o st mid).time ≡ target)
      go (inl e) later = ([], c ∷ cs, refl, e)
      go (inr ne) later = let r = later (omega (arith, ne, (moves st c).1)) in (c ∷ r.0, r.1, ap (λ zs. c ∷ zs) r.2, r.3)

  -- an unfinished job of this task and release
  abbrev pub Waits : List Work → ℕ → ℕ → Type 0
  Waits jobs j r = (w : Work) × In w jobs × (w.task ≡ j) × (w.release ≡ r) × (w.finished ≡ false)

  before_accepted : (st : State) → Facts s st → (c : Call) (j r : ℕ) → r < st.time → Waits (accept s o st c).jobs j r → Waits st.jobs j r
  before_accepted st f (look k) j r lt p = p
  before_accepted st f (release k) j r lt (w, inl q, e, d, h) = absurd (omega (arith, ap (λ (z : Work). z.release) q))
  before_accepted st f (release k) j r lt (w, inr m, e, d, h) = (w, m, e, d, h)
  before_accepted st f (tick done) j r lt p = go (job_to_run s.mode o (waiting st)) (choice s o law s.mode (waiting st) (all_known_waiting s o checked law st f)) p
    where
      run : (x : Work) → In x st.jobs → x.finished ≡ false → Waits (map (given s done (st.time + 1) x) st.jobs) j r → Waits st.jobs j r
      run x m un (w, k, e, d, h) = at (from_map (given s done (st.time + 1) x) st.jobs w k)
        where
          at : (u : Work) × In u st.jobs × (w ≡ given s done (st.time + 1) x u) → Waits st.jobs j r
          at (u, l, q) = two (given_cases s o checked law st done f x m un u l)
            where
              two : ((u ≡ x) × (given s done (st.time + 1) x u ≡ run_one s done (st.time + 1) x)) ⊎ ((same_work u x ≡ false) × (given s done (st.time + 1) x u ≡ u)) → Waits st.jobs j r
              two (inl (y, z)) = (x, m, sym (ap (λ (v : Work). v.task) (q ∙ z)) ∙ e, sym (ap (λ (v : Work). v.release) (q ∙ z)) ∙ d, un)
              two (inr (y, z)) = (u, l, sym (ap (λ (v : Work). v.task) (q ∙ z)) ∙ e, sym (ap (λ (v : Work). v.release) (q ∙ z)) ∙ d, sym (ap (λ (v : Work). v.finished) (q ∙ z)) ∙ h)

      go : (x : Option Work) → Choice s.mode o (waiting st) x → Waits (run_in s done (st.time + 1) x st.jobs) j r → Waits st.jobs j r
      go x (nobody n) q = q
      go x (leader y m all none) q = run y (waits_of st y m).0 (waits_of st y m).1 q
      go x (kept y m e b) q = run y (waits_of st y m).0 (waits_of st y m).1 q

  facts_step : (st : State) (c : Call) → Facts s st → Facts s (step s o st c)
  facts_step st c f = step_keeps s o (Facts s) st c f (facts_accept s o checked law st c f)

  -- what waits later and was released before waits now
  pub before : (st : State) → Facts s st → (cs : List Call) (j r : ℕ) → r < st.time → Waits (play s o st cs).jobs j r → Waits st.jobs j r
  unfolding play
  before st f [] j r lt p = p
  before st f (c ∷ cs) j r lt p = step_keeps s o (λ z. Waits z.jobs j r → Waits st.jobs j r) st c (λ q. q) (λ e. before_accepted st f c j r lt) (before (step s o st c) (facts_step st c f) cs j r (omega (arith, (moves st c).0)) p)

  pub missed : (calls : List Call) (w : Work) → In w (after s o calls).jobs → w.finished ≡ false → w.release + (task_at s w.task).deadline ≤ (after s o calls).time → Misses s o
  missed calls w m h late =
      let r = reach (w.release + (task_at s w.task).deadline) start calls (omega arith) late in
      let due : 1 ≤ (task_at s w.task).deadline = (task_ranges s checked w.task ((facts_after s o checked law calls).known w m)).deadline_low in
      made r.0 r.3 (before (play s o start r.0) (facts_after s o checked law r.0) r.1 w.task w.release (omega (arith, r.3))
      (w, subst (λ z. In w z.jobs) (ap (λ cs. play s o start cs) r.2 ∙ play_append s o start r.0 r.1) m, refl, refl, h))
    where
      made : (mid : List Call) → (play s o start mid).time ≡ w.release + (task_at s w.task).deadline → Waits (play s o start mid).jobs w.task w.release → Misses s o
      made mid e (u, k, p, q, y) = (mid, u, k, y, omega (arith, e, q, ap (λ j. (task_at s j).deadline) p))
