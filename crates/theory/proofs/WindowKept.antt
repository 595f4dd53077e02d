-- Every call keeps the windows of all jobs, so every course has them.
use Rattle.std.proofs.Common.{◌≡◌, ℕ, suc, ◌+◌, ◌-◌, ◌<◌, ◌≤◌, Bool, true, false, cond, ◌⊎◌, List, ◌∷◌, map, None, Option, sym, refl, ap, ◌∙◌, inl, inr, arith}
use Rattle.std.proofs.lemmas.Bool.{cases_Bool, both_ways, leb-false}
use Rattle.table.specs.Rules.{TaskSet, Checked, task_at, task_count}
use Rattle.table.specs.declared.kinds.Mode.{Mode}
use Rattle.table.specs.declared.kinds.Mode.TheVariants.{NonPreemptive, Preemptive}
use Rattle.table.proofs.Ranges.{task_ranges}
use Rattle.policy.specs.Order.{Order}
use Rattle.policy.specs.Laws.{Lawful}
use Rattle.theory.specs.Lists.{In}
use Rattle.theory.specs.Machine.{Work, State, Call, release, tick, look, refusal, accept, start, play, same_work, run_one, run_in, waiting, begun, job_to_run}
use Rattle.theory.proofs.Orders.{leads, leads_trans}
use Rattle.theory.proofs.Search.{from_map}
use Rattle.theory.proofs.Choice.{Choice, nobody, leader, kept, choice, front}
use Rattle.theory.proofs.Courses.{step_keeps, play_keeps}
use Rattle.theory.proofs.Works.{tests, asked, served, total_more, given, given_tests}
use Rattle.theory.proofs.MachineFacts.{Facts, On, facts_start, facts_accept, facts_served, facts_tick, only_on, on_served, given_cases, waits_of, waits_in, all_known_waiting}
use Rattle.theory.proofs.Window.{Window, Held, key, from_on, released_within, ahead_within, fresh}
use Rattle.theory.proofs.WindowTick.{window_inside, window_held}

module _ (s : TaskSet) (o : Order) (checked : Checked s) (law : Lawful s o) (i A : ℕ) (here : i < task_count s) where
  pub window_start : Window s o i A start
  window_start = fresh s o i A start (facts_start s o checked law) (λ w m. absurd m) 0 (inl refl) (λ w m. absurd m)

  pub window_release : (st : State) (j : ℕ) → Window s o i A st → Window s o i A (accept s o st (release j))
  window_release st j win = record {
    opened = win.opened;
    allowance = win.allowance;
    used = win.used;
    busy = omega (arith, win.busy, same_served (from_on o i A win.opened));
    used_in = win.used_in;
    cleared = λ w m. cleared w m;
    source = win.source;
    hold = λ w m. hold w m;
    owed = λ t low le. omega (arith, win.owed t low le, more_asked (released_within o i A win.opened t));
    owed_before = λ q n t lt. omega (arith, win.owed_before q (λ w m. n w (inr m)) t (omega (arith, same_served (key i A))), more_asked (ahead_within o i A win.opened t));
  }
    where
      new : Work
      new = record { task = j; release = st.time; ran = 0; finished = false; response = 0 }

      same_served : (p : ℕ → ℕ → Bool) → served p (new ∷ st.jobs) ≡ served p st.jobs
      same_served p = total_more (λ w. cond (tests p w) w.ran 0) new st.jobs ∙ zero_first (p j st.time)
        where
          zero_first : (b : Bool) → cond b 0 0 + served p st.jobs ≡ served p st.jobs
          zero_first true = omega arith
          zero_first false = omega arith

      more_asked : (p : ℕ → ℕ → Bool) → asked s p st.jobs ≤ asked s p (new ∷ st.jobs)
      more_asked p = omega (arith, total_more (λ w. cond (tests p w) (task_at s w.task).cost 0) new st.jobs)

      cleared : (w : Work) → (w ≡ new) ⊎ In w st.jobs → tests (leads o i A) w ≡ true → w.release < win.opened → w.finished ≡ true
      cleared w (inl e) h lt = absurd (omega (arith, win.busy, ap (λ z. z.release) e))
      cleared w (inr m) h lt = win.cleared w m h lt

      hold : (w : Work) → (w ≡ new) ⊎ In w st.jobs → Held s w → tests (leads o i A) w ≡ false → (w.ran ≡ suc win.used) × (win.opened + win.used ≡ st.time) × ((task_at s w.task).cost ≡ suc win.allowance)
      hold w (inl e) h n = absurd (both_ways (begun w) (ap (λ z. begun z) e) h.1.0)
      hold w (inr m) h n = win.hold w m h n

  -- nobody waits: nothing is left of any front
  window_idle : (st : State) → Facts s (record { time = st.time + 1; jobs = st.jobs }) → ((w : Work) → In w (waiting st) → ⊥) → Window s o i A (record { time = st.time + 1; jobs = st.jobs })
  window_idle st f none = fresh s o i A (record { time = st.time + 1; jobs = st.jobs }) f (λ w m h. over w m (cases_Bool w.finished)) 0 (inl refl) (λ w m h n. absurd (none w (waits_in st w m h.1.1)))
    where
      over : (w : Work) → In w st.jobs → (w.finished ≡ true) ⊎ (w.finished ≡ false) → w.finished ≡ true
      over w m (inl e) = e
      over w m (inr e) = absurd (none w (waits_in st w m e))

  -- a job behind K is chosen: nothing of K's front waits
  window_behind : (st : State) (done : Bool) (f : Facts s st) (x : Work) (m : In x (waiting st)) → ((w : Work) → In w (waiting st) → front o x w ≡ true) → (s.mode ≡ NonPreemptive → (w : Work) → In w (waiting st) → begun w ≡ false) → tests (leads o i A) x ≡ false
      → Window s o i A (record { time = st.time + 1; jobs = map (given s done (st.time + 1) x) st.jobs })
  window_behind st done f x m all none behind = go s.mode refl
    where
      inside : In x st.jobs
      inside = (waits_of st x m).0

      waits_x : x.finished ≡ false
      waits_x = (waits_of st x m).1

      later : State
      later = record { time = st.time + 1; jobs = map (given s done (st.time + 1) x) st.jobs }

      facts : Facts s later
      facts = facts_served s o checked law st done f x inside waits_x (only_on s o checked law st x f none)

      was : (u : Work) → In u st.jobs → tests (leads o i A) u ≡ true → (u.finished ≡ true) ⊎ (u.finished ≡ false) → u.finished ≡ true
      was u k h (inl e) = e
      was u k h (inr e) = absurd (both_ways (tests (leads o i A) x) behind (leads_trans s o law i A u.task u.release x.task x.release here (f.known u k) (f.known x inside) h (all u (waits_in st u k e))))

      over : (w : Work) → In w later.jobs → tests (leads o i A) w ≡ true → w.finished ≡ true
      over w k h = from (from_map (given s done (st.time + 1) x) st.jobs w k)
        where
          from : (u : Work) × In u st.jobs × (w ≡ given s done (st.time + 1) x u) → w.finished ≡ true
          from (u, n, e) = two (given_cases s o checked law st done f x inside waits_x u n)
            where
              lead_u : tests (leads o i A) u ≡ true
              lead_u = sym (given_tests s done (st.time + 1) x u (leads o i A)) ∙ ap (λ z. tests (leads o i A) z) (sym e) ∙ h

              two : ((u ≡ x) × (given s done (st.time + 1) x u ≡ run_one s done (st.time + 1) x)) ⊎ ((same_work u x ≡ false) × (given s done (st.time + 1) x u ≡ u)) → w.finished ≡ true
              two (inl (d, q)) = absurd (both_ways (tests (leads o i A) x) behind (ap (λ z. tests (leads o i A) z) (sym d) ∙ lead_u))
              two (inr (d, q)) = ap (λ z. z.finished) (e ∙ q) ∙ was u n lead_u (cases_Bool u.finished)

      other_mode : s.mode ≡ Preemptive → s.mode ≡ NonPreemptive → ⊥
      other_mode a b = let z : ◌≡◌ {A = ℕ} 0 1 = cc in omega arith

      go : (mode : Mode) → s.mode ≡ mode → Window s o i A later
      go Preemptive q = fresh s o i A later facts over 0 (inl refl) (λ w k h n. absurd (other_mode q h.0))
      go NonPreemptive q = fresh s o i A later facts over ((task_at s x.task).cost - 1) (inr (x.task, x.release, q, f.known x inside, omega (arith, f.past x inside), behind, cost)) (λ w k h n. hold w (on_served s o checked law st done f x inside waits_x (only_on s o checked law st x f none q) w k h.1))
        where
          cost : (task_at s x.task).cost ≡ suc ((task_at s x.task).cost - 1)
          cost = omega (arith, (task_ranges s checked x.task (f.known x inside)).cost_low)

          hold : (w : Work) → w ≡ run_one s done (st.time + 1) x → (w.ran ≡ 1) × ((task_at s w.task).cost ≡ suc ((task_at s x.task).cost - 1))
          hold w e = (omega (arith, ap (λ z. z.ran) e, leb-false 1 x.ran (none q x m)), ap (λ z. (task_at s z.task).cost) e ∙ cost)

  pub window_tick : (st : State) (done : Bool) → Facts s st → Window s o i A st → Window s o i A (accept s o st (tick done))
  window_tick st done f win = go (job_to_run s.mode o (waiting st)) (choice s o law s.mode (waiting st) (all_known_waiting s o checked law st f)) (facts_tick s o checked law st done f)
    where
      go : (r : Option Work) → Choice s.mode o (waiting st) r → Facts s (record { time = st.time + 1; jobs = run_in s done (st.time + 1) r st.jobs }) → Window s o i A (record { time = st.time + 1; jobs = run_in s done (st.time + 1) r st.jobs })
      go r (nobody n) facts = window_idle st facts n
      go r (leader x m all none) facts = two (cases_Bool (tests (leads o i A) x))
        where
          two : (tests (leads o i A) x ≡ true) ⊎ (tests (leads o i A) x ≡ false) → Window s o i A (record { time = st.time + 1; jobs = map (given s done (st.time + 1) x) st.jobs })
          two (inl e) = window_inside s o checked law i A st done f x (waits_of st x m).0 (waits_of st x m).1 (only_on s o checked law st x f none) win e
          two (inr e) = window_behind st done f x m all none e
      go r (kept x m q b) facts = two (cases_Bool (tests (leads o i A) x))
        where
          on : On x
          on = (b, (waits_of st x m).1)

          only : s.mode ≡ NonPreemptive → (v : Work) → In v st.jobs → On v → v ≡ x
          only z v k a = f.alone z v x k (waits_of st x m).0 a on

          two : (tests (leads o i A) x ≡ true) ⊎ (tests (leads o i A) x ≡ false) → Window s o i A (record { time = st.time + 1; jobs = map (given s done (st.time + 1) x) st.jobs })
          two (inl e) = window_inside s o checked law i A st done f x (waits_of st x m).0 (waits_of st x m).1 only win e
          two (inr e) = window_held s o checked law i A st done f x (waits_of st x m).0 (waits_of st x m).1 only win e (q, on)

  pub window_accept : (st : State) (c : Call) → Facts s st → Window s o i A st → refusal s st c ≡ None → Window s o i A (accept s o st c)
  window_accept st (release j) f win h = window_release st j win
  window_accept st (tick done) f win h = window_tick st done f win
  window_accept st (look j) f win h = win

  abbrev Both : State → Type 0
  Both st = Facts s st × Window s o i A st

  -- after every list of calls every job of the task set has a window
  pub window_after : (cs : List Call) → Window s o i A (play s o start cs)
  window_after cs = (play_keeps s o Both (λ st c b. step_keeps s o Both st c b (λ e. (facts_accept s o checked law st c b.0 e, window_accept st c b.0 b.1 e))) start cs (facts_start s o checked law, window_start)).1
