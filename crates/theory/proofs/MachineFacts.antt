-- What every course keeps of the reference machine's jobs.
use Rattle.std.proofs.Common.{◌≡◌, ℕ, ◌+◌, ◌<◌, ◌≤◌, Bool, true, false, cond, ◌&&◌, ltb, leb, ◌⊎◌, List, [], ◌∷◌, map, Some, None, Option, sym, refl, ap, ◌∙◌, subst, inl, inr, arith}
use Rattle.std.proofs.lemmas.Bool.{cases_Bool, both_ways, cond-true, cond-false, and_cases, eq-eqb, ltb-false, leb-false, or_parts, not-true, not_from_false}
use Rattle.table.specs.Rules.{TaskSet, Checked, task_at, task_count}
use Rattle.table.specs.declared.kinds.Mode.TheVariants.{NonPreemptive}
use Rattle.table.specs.declared.refusal.Refusal.{Refusal}
use Rattle.table.specs.declared.refusal.Refusal.TheVariants.{NoTaskToRun, TooSoon, QueueFull}
use Rattle.table.proofs.Ranges.{task_ranges}
use Rattle.policy.specs.Order.{Order}
use Rattle.policy.specs.Laws.{Lawful}
use Rattle.theory.specs.Lists.{In, any, how_many}
use Rattle.theory.specs.Machine.{Work, State, Call, release, tick, look, refusal, accept, start, play, same_work, run_one, run_in, waits, waiting, begun, of_task, longest_line, job_to_run}
use Rattle.theory.proofs.Search.{any_none, none_some, those_of, in_those, from_map}
use Rattle.theory.proofs.Choice.{AllKnown, Choice, nobody, leader, kept, choice}
use Rattle.theory.proofs.Courses.{step_keeps, play_keeps}
use Rattle.theory.proofs.Works.{Apart, given, given_same, given_other, given_task, given_release, same_facts, same_from, same_one}

-- the newest first, those of one task are released at least T apart
abbrev pub Spaced : TaskSet → List Work → Type 0
Spaced s [] = Unit {0}
Spaced s (w ∷ ws) = ((v : Work) → In v ws → v.task ≡ w.task → v.release + (task_at s w.task).period ≤ w.release) × Spaced s ws

-- begun and not finished
abbrev pub On : Work → Type 0
On w = (begun w ≡ true) × (w.finished ≡ false)

pub record Facts (s : TaskSet) (st : State) : Type 0 where
  pub known : (w : Work) → In w st.jobs → w.task < task_count s
  pub past : (w : Work) → In w st.jobs → w.release + w.ran ≤ st.time
  pub within : (w : Work) → In w st.jobs → w.ran ≤ (task_at s w.task).cost
  pub short : (w : Work) → In w st.jobs → w.finished ≡ false → w.ran < (task_at s w.task).cost
  pub spaced : Spaced s st.jobs
  -- without preemption at most one job is begun and not finished
  pub alone : s.mode ≡ NonPreemptive → (v w : Work) → In v st.jobs → In w st.jobs → On v → On w → v ≡ w

-- a tick moves no release
pub spaced_map : (s : TaskSet) (done : Bool) (later : ℕ) (x : Work) (ws : List Work) → Spaced s ws → Spaced s (map (given s done later x) ws)
spaced_map s done later x [] far = tt
spaced_map s done later x (w ∷ ws) far = (λ v m e. at v e (from_map g ws v m), spaced_map s done later x ws far.1)
  where
    g : Work → Work
    g = given s done later x

    at : (v : Work) → v.task ≡ (given s done later x w).task → (u : Work) × In u ws × (v ≡ given s done later x u) → v.release + (task_at s (given s done later x w).task).period ≤ (given s done later x w).release
    at v e (u, m, q) =
        let t : u.task ≡ w.task = sym (given_task s done later x u) ∙ ap (λ z. z.task) (sym q) ∙ e ∙ given_task s done later x w in
        let a : v.release ≡ u.release = ap (λ z. z.release) q ∙ given_release s done later x u in
        let b : (given s done later x w).release ≡ w.release = given_release s done later x w in
        let c : (task_at s (given s done later x w).task).period ≡ (task_at s w.task).period = ap (λ z. (task_at s z).period) (given_task s done later x w) in
        let d = far.0 u m t in
        omega arith

pub apart_from_spaced : (s : TaskSet) (ws : List Work) → Checked s → ((w : Work) → In w ws → w.task < task_count s) → Spaced s ws → Apart ws
apart_from_spaced s [] checked known far = tt
apart_from_spaced s (w ∷ ws) checked known far = (λ v m. go v m (cases_Bool (same_work v w)), apart_from_spaced s ws checked (λ v m. known v (inr m)) far.1)
  where
    go : (v : Work) → In v ws → (same_work v w ≡ true) ⊎ (same_work v w ≡ false) → same_work v w ≡ false
    go v m (inl e) = let f = same_facts v w e in absurd (omega (arith, f.1, far.0 v m f.0, (task_ranges s checked w.task (known w (inl refl))).period_low))
    go v m (inr e) = e

pub facts_apart : (s : TaskSet) (st : State) → Checked s → Facts s st → Apart st.jobs
facts_apart s st checked f = apart_from_spaced s st.jobs checked f.known f.spaced

-- a job that waits is an unfinished job
pub waits_of : (st : State) (w : Work) → In w (waiting st) → In w st.jobs × (w.finished ≡ false)
waits_of st w m = let r = those_of waits st.jobs w m in (r.0, not-true w.finished r.1)

pub waits_in : (st : State) (w : Work) → In w st.jobs → w.finished ≡ false → In w (waiting st)
waits_in st w m h = in_those waits st.jobs w m (not_from_false w.finished h)

-- what an accepted release says
pub record Free (s : TaskSet) (st : State) (j : ℕ) : Type 0 where
  pub task_here : j < task_count s
  pub rested : (w : Work) → In w st.jobs → w.task ≡ j → w.release + (task_at s j).period ≤ st.time
  pub room : how_many (of_task j) (waiting st) < longest_line

pub released_free : (s : TaskSet) (st : State) (j : ℕ) → refusal s st (release j) ≡ None → Free s st j
released_free s st j h = go (cases_Bool (leb (task_count s) j)) (cases_Bool soon) (cases_Bool (leb longest_line (how_many (of_task j) (waiting st))))
  where
    soon : Bool
    soon = any (λ w. of_task j w && ltb st.time (w.release + (task_at s j).period)) st.jobs

    full : Option Refusal
    full = cond (leb longest_line (how_many (of_task j) (waiting st))) (Some (QueueFull j)) None

    late : Option Refusal
    late = cond soon (Some (TooSoon j)) full

    go : (leb (task_count s) j ≡ true) ⊎ (leb (task_count s) j ≡ false) → (soon ≡ true) ⊎ (soon ≡ false) → (leb longest_line (how_many (of_task j) (waiting st)) ≡ true) ⊎ (leb longest_line (how_many (of_task j) (waiting st)) ≡ false) → Free s st j
    go (inl e) q r = absurd (none_some (sym h ∙ cond-true (leb (task_count s) j) (Some (NoTaskToRun j)) late e))
    go (inr e) (inl q) r = absurd (none_some (sym h ∙ cond-false (leb (task_count s) j) (Some (NoTaskToRun j)) late e ∙ cond-true soon (Some (TooSoon j)) full q))
    go (inr e) (inr q) (inl r) = absurd (none_some (sym h ∙ cond-false (leb (task_count s) j) (Some (NoTaskToRun j)) late e ∙ cond-false soon (Some (TooSoon j)) full q ∙ cond-true (leb longest_line (how_many (of_task j) (waiting st))) (Some (QueueFull j)) None r))
    go (inr e) (inr q) (inr r) = record {
      task_here = leb-false (task_count s) j e;
      rested = λ w m f. test w f (and_cases (of_task j w) (ltb st.time (w.release + (task_at s j).period)) (any_none (λ w. of_task j w && ltb st.time (w.release + (task_at s j).period)) st.jobs q w m));
      room = leb-false longest_line (how_many (of_task j) (waiting st)) r;
    }
      where
        test : (w : Work) → w.task ≡ j → (of_task j w ≡ false) ⊎ (ltb st.time (w.release + (task_at s j).period) ≡ false) → w.release + (task_at s j).period ≤ st.time
        test w f (inl a) = absurd (both_ways (of_task j w) a (eq-eqb w.task j f))
        test w f (inr b) = ltb-false st.time (w.release + (task_at s j).period) b

module _ (s : TaskSet) (o : Order) (checked : Checked s) (law : Lawful s o) where
  pub facts_start : Facts s start
  facts_start = record { known = λ w m. absurd m; past = λ w m. absurd m; within = λ w m. absurd m; short = λ w m. absurd m; spaced = tt; alone = λ q v w m. absurd m }

  pub facts_release : (st : State) (j : ℕ) → Free s st j → Facts s st → Facts s (accept s o st (release j))
  facts_release st j free f = record {
    known = λ w m. known w m;
    past = λ w m. past w m;
    within = λ w m. within w m;
    short = λ w m h. short w m h;
    spaced = (λ v m e. free.rested v m e, f.spaced);
    alone = λ q v w m k a b. alone q v w m k a b;
  }
    where
      new : Work
      new = record { task = j; release = st.time; ran = 0; finished = false; response = 0 }

      cost : 1 ≤ (task_at s j).cost
      cost = (task_ranges s checked j free.task_here).cost_low

      known : (w : Work) → (w ≡ new) ⊎ In w st.jobs → w.task < task_count s
      known w (inl e) = subst (λ z. z.task < task_count s) (sym e) free.task_here
      known w (inr m) = f.known w m

      past : (w : Work) → (w ≡ new) ⊎ In w st.jobs → w.release + w.ran ≤ st.time
      past w (inl e) = subst (λ z. z.release + z.ran ≤ st.time) (sym e) (omega arith)
      past w (inr m) = f.past w m

      within : (w : Work) → (w ≡ new) ⊎ In w st.jobs → w.ran ≤ (task_at s w.task).cost
      within w (inl e) = subst (λ z. z.ran ≤ (task_at s z.task).cost) (sym e) (omega arith)
      within w (inr m) = f.within w m

      short : (w : Work) → (w ≡ new) ⊎ In w st.jobs → w.finished ≡ false → w.ran < (task_at s w.task).cost
      short w (inl e) h = subst (λ z. z.ran < (task_at s z.task).cost) (sym e) cost
      short w (inr m) h = f.short w m h

      idle : (w : Work) → w ≡ new → On w → ⊥
      idle w e a = both_ways (begun w) (ap (λ z. begun z) e) a.0

      alone : s.mode ≡ NonPreemptive → (v w : Work) → (v ≡ new) ⊎ In v st.jobs → (w ≡ new) ⊎ In w st.jobs → On v → On w → v ≡ w
      alone q v w (inl e) k a b = absurd (idle v e a)
      alone q v w (inr m) (inl e) a b = absurd (idle w e b)
      alone q v w (inr m) (inr k) a b = f.alone q v w m k a b

  -- the job x gets a tick: what its jobs become
  module _ (st : State) (done : Bool) (f : Facts s st) (x : Work) (inside : In x st.jobs) (waits_x : x.finished ≡ false) where
    abbrev pub g : Work → Work
    g = given s done (st.time + 1) x

    -- each job is the tick's job or as it was
    pub given_cases : (v : Work) → In v st.jobs → ((v ≡ x) × (g v ≡ run_one s done (st.time + 1) x)) ⊎ ((same_work v x ≡ false) × (g v ≡ v))
    given_cases v m = go (cases_Bool (same_work v x))
      where
        go : (same_work v x ≡ true) ⊎ (same_work v x ≡ false) → ((v ≡ x) × (g v ≡ run_one s done (st.time + 1) x)) ⊎ ((same_work v x ≡ false) × (g v ≡ v))
        go (inl e) = let q = same_one st.jobs (facts_apart s st checked f) v x m inside e in inl (q, given_same s done (st.time + 1) x v e ∙ ap (λ z. run_one s done (st.time + 1) z) q)
        go (inr e) = inr (e, given_other s done (st.time + 1) x v e)

    -- what is on after the tick is the job that ran
    pub on_served : ((v : Work) → In v st.jobs → On v → v ≡ x) → (w : Work) → In w (map g st.jobs) → On w → w ≡ run_one s done (st.time + 1) x
    on_served only w m a = go (from_map g st.jobs w m)
      where
        go : (u : Work) × In u st.jobs × (w ≡ g u) → w ≡ run_one s done (st.time + 1) x
        go (u, k, e) = two (given_cases u k)
          where
            two : ((u ≡ x) × (g u ≡ run_one s done (st.time + 1) x)) ⊎ ((same_work u x ≡ false) × (g u ≡ u)) → w ≡ run_one s done (st.time + 1) x
            two (inl (d, h)) = e ∙ h
            two (inr (d, h)) =
                let y : u ≡ x = only u k (subst (λ z. On z) (e ∙ h) a) in
                absurd (both_ways (same_work u x) d (same_from u x (ap (λ z. z.task) y) (ap (λ z. z.release) y)))

    pub facts_served : (s.mode ≡ NonPreemptive → (v : Work) → In v st.jobs → On v → v ≡ x) → Facts s (record { time = st.time + 1; jobs = map g st.jobs })
    facts_served only = record {
      known = λ w m. known w (from_map g st.jobs w m);
      past = λ w m. past w (from_map g st.jobs w m);
      within = λ w m. within w (from_map g st.jobs w m);
      short = λ w m h. short w h (from_map g st.jobs w m);
      spaced = spaced_map s done (st.time + 1) x st.jobs f.spaced;
      alone = λ q v w m k a b. on_served (only q) v m a ∙ sym (on_served (only q) w k b);
    }
      where
        known : (w : Work) → (u : Work) × In u st.jobs × (w ≡ g u) → w.task < task_count s
        known w (u, m, q) = subst (λ z. z < task_count s) (sym (ap (λ z. z.task) q ∙ given_task s done (st.time + 1) x u)) (f.known u m)

        past : (w : Work) → (u : Work) × In u st.jobs × (w ≡ g u) → w.release + w.ran ≤ st.time + 1
        past w (u, m, q) = go (given_cases u m)
          where
            go : ((u ≡ x) × (g u ≡ run_one s done (st.time + 1) x)) ⊎ ((same_work u x ≡ false) × (g u ≡ u)) → w.release + w.ran ≤ st.time + 1
            go (inl (e, h)) = subst (λ z. z.release + z.ran ≤ st.time + 1) (sym (q ∙ h)) (omega (arith, f.past x inside))
            go (inr (e, h)) = subst (λ z. z.release + z.ran ≤ st.time + 1) (sym (q ∙ h)) (omega (arith, f.past u m))

        within : (w : Work) → (u : Work) × In u st.jobs × (w ≡ g u) → w.ran ≤ (task_at s w.task).cost
        within w (u, m, q) = go (given_cases u m)
          where
            go : ((u ≡ x) × (g u ≡ run_one s done (st.time + 1) x)) ⊎ ((same_work u x ≡ false) × (g u ≡ u)) → w.ran ≤ (task_at s w.task).cost
            go (inl (e, h)) = subst (λ z. z.ran ≤ (task_at s z.task).cost) (sym (q ∙ h)) (omega (arith, f.short x inside waits_x))
            go (inr (e, h)) = subst (λ z. z.ran ≤ (task_at s z.task).cost) (sym (q ∙ h)) (f.within u m)

        short : (w : Work) → w.finished ≡ false → (u : Work) × In u st.jobs × (w ≡ g u) → w.ran < (task_at s w.task).cost
        short w fin (u, m, q) = go (given_cases u m)
          where
            go : ((u ≡ x) × (g u ≡ run_one s done (st.time + 1) x)) ⊎ ((same_work u x ≡ false) × (g u ≡ u)) → w.ran < (task_at s w.task).cost
            go (inl (e, h)) = subst (λ z. z.ran < (task_at s z.task).cost) (sym (q ∙ h)) (leb-false (task_at s x.task).cost (x.ran + 1) (or_parts done (leb (task_at s x.task).cost (x.ran + 1)) (sym (ap (λ z. z.finished) (q ∙ h)) ∙ fin)).1)
            go (inr (e, h)) = subst (λ z. z.ran < (task_at s z.task).cost) (sym (q ∙ h)) (f.short u m (sym (ap (λ z. z.finished) (q ∙ h)) ∙ fin))

  -- the job that a tick runs is the one that is on, if one is
  pub only_on : (st : State) (x : Work) → Facts s st → ((s.mode ≡ NonPreemptive) → (w : Work) → In w (waiting st) → begun w ≡ false) → s.mode ≡ NonPreemptive → (v : Work) → In v st.jobs → On v → v ≡ x
  only_on st x f none q v m a = absurd (both_ways (begun v) (none q v (waits_in st v m a.1)) a.0)

  facts_idle : (st : State) → Facts s st → Facts s (record { time = st.time + 1; jobs = st.jobs })
  facts_idle st f = record { known = f.known; past = λ w m. omega (arith, f.past w m); within = f.within; short = f.short; spaced = f.spaced; alone = f.alone }

  pub all_known_waiting : (st : State) → Facts s st → AllKnown s (waiting st)
  all_known_waiting st f w m = f.known w (waits_of st w m).0

  pub facts_tick : (st : State) (done : Bool) → Facts s st → Facts s (accept s o st (tick done))
  facts_tick st done f = go (job_to_run s.mode o (waiting st)) (choice s o law s.mode (waiting st) (all_known_waiting st f))
    where
      go : (r : Option Work) → Choice s.mode o (waiting st) r → Facts s (record { time = st.time + 1; jobs = run_in s done (st.time + 1) r st.jobs })
      go r (nobody n) = facts_idle st f
      go r (leader x m all none) = facts_served st done f x (waits_of st x m).0 (waits_of st x m).1 (only_on st x f none)
      go r (kept x m q b) = facts_served st done f x (waits_of st x m).0 (waits_of st x m).1 (λ q v k a. f.alone q v x k (waits_of st x m).0 a (b, (waits_of st x m).1))

  pub facts_accept : (st : State) (c : Call) → Facts s st → refusal s st c ≡ None → Facts s (accept s o st c)
  facts_accept st (release j) f h = facts_release st j (released_free s st j h) f
  facts_accept st (tick done) f h = facts_tick st done f
  facts_accept st (look j) f h = f

  -- the facts hold after every list of calls
  pub facts_after : (cs : List Call) → Facts s (play s o start cs)
  facts_after cs = play_keeps s o (Facts s) (λ st c f. step_keeps s o (Facts s) st c f (facts_accept st c f)) start cs facts_start
