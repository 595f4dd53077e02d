-- A full line needs a deadline already missed: 8 jobs of a task that wait at a release that is not too soon span 8 periods.
use Rattle.std.proofs.Common.{◌≡◌, ℕ, zero, suc, ◌+◌, ◌-◌, ◌*◌, ◌<◌, ◌≤◌, Bool, true, false, cond, ◌&&◌, ltb, leb, ◌⊎◌, List, [], ◌∷◌, ◌++◌, Some, None, Option, sym, refl, ap, ◌∙◌, subst, inl, inr, suc-mul, arith}
use Rattle.std.proofs.lemmas.Bool.{cases_Bool, both_ways, cond-true, cond-false, and_cases, eq-eqb, eqb-true, ltb-false, leb-true, not-true}
use Rattle.table.specs.Rules.{TaskSet, Checked, task_at, task_count}
use Rattle.table.specs.declared.refusal.Refusal.{Refusal}
use Rattle.table.specs.declared.refusal.Refusal.TheVariants.{NoTaskToRun, TooSoon, QueueFull, TimeOver}
use Rattle.table.proofs.Ranges.{task_ranges}
use Rattle.policy.specs.Order.{Order}
use Rattle.policy.specs.Laws.{Lawful}
use Rattle.theory.specs.BusyPeriod.{BusyPeriod}
use Rattle.theory.specs.Lists.{In, any, those, how_many}
use Rattle.theory.specs.Machine.{Work, State, Call, release, tick, look, Refused, Ran, Finished, refusal, reply, answer, answer_by, told, play, answers, start, of_task, waits, waiting, longest_line, last_time, job_to_run, ends}
use Rattle.theory.specs.Guarantee.{after, OverdueOf, FullLineOverdueItself, NeverFull}
use Rattle.theory.proofs.Bound.{never_longer}
use Rattle.theory.proofs.Courses.{play_snoc}
use Rattle.theory.proofs.MachineFacts.{Spaced, facts_after}
use Rattle.theory.proofs.Placed.{Placed, placed_after}
use Rattle.theory.proofs.Search.{any_none}
use Rattle.theory.proofs.WorstExists.{worst_exists}

-- an unfinished job of task j, released at least m periods before b
abbrev Waited : TaskSet → ℕ → List Work → ℕ → ℕ → Type 0
Waited s j ws m b = (w : Work) × In w ws × (w.finished ≡ false) × (w.task ≡ j) × (w.release + m * (task_at s j).period ≤ b)

further : (s : TaskSet) (j : ℕ) (w : Work) (ws : List Work) (m b : ℕ) → Waited s j ws m b → Waited s j (w ∷ ws) m b
further s j w ws m b (v, here, open_job, mine, old) = (v, inr here, open_job, mine, old)

-- m waiting jobs of a task, the newest at least a period before b, reach m periods back
reach_back : (s : TaskSet) (j : ℕ) (ws : List Work) (m b : ℕ) → Spaced s ws → ((w : Work) → In w ws → w.task ≡ j → w.release + (task_at s j).period ≤ b) → suc m ≤ how_many (of_task j) (those waits ws) → Waited s j ws (suc m) b
unfolding how_many those
reach_back s j [] m b far low long = absurd (omega arith)
reach_back s j (w ∷ ws) m b far low long = go m long (cases_Bool (waits w)) (cases_Bool (of_task j w)) (λ k c l h. reach_back s j ws k c far.1 l h)
  where
    T : ℕ
    T = (task_at s j).period

    IH : Type 0
    IH = (k c : ℕ) → ((v : Work) → In v ws → v.task ≡ j → v.release + (task_at s j).period ≤ c) → suc k ≤ how_many (of_task j) (those waits ws) → Waited s j ws (suc k) c

    go : (k : ℕ) → suc k ≤ how_many (of_task j) (cond (waits w) (w ∷ those waits ws) (those waits ws)) → (waits w ≡ true) ⊎ (waits w ≡ false) → (of_task j w ≡ true) ⊎ (of_task j w ≡ false) → IH → Waited s j (w ∷ ws) (suc k) b
    go k l (inr e) q ih = further s j w ws (suc k) b (ih k b (λ v m f. low v (inr m) f) (subst (λ xs. suc k ≤ how_many (of_task j) xs) (cond-false (waits w) (w ∷ those waits ws) (those waits ws) e) l))
    go k l (inl e) (inr q) ih =
        let less : suc k ≤ cond (of_task j w) 1 0 + how_many (of_task j) (those waits ws) = subst (λ xs. suc k ≤ how_many (of_task j) xs) (cond-true (waits w) (w ∷ those waits ws) (those waits ws) e) l in
        further s j w ws (suc k) b (ih k b (λ v m f. low v (inr m) f) (omega (arith, less, cond-false {A = ℕ} (of_task j w) 1 0 q)))
    go zero l (inl e) (inl q) ih = (w, inl refl, not-true w.finished e, eqb-true w.task j q, omega (arith, low w (inl refl) (eqb-true w.task j q), suc-mul 0 (task_at s j).period))
    go (suc k) l (inl e) (inl q) ih =
        let less : suc (suc k) ≤ cond (of_task j w) 1 0 + how_many (of_task j) (those waits ws) = subst (λ xs. suc (suc k) ≤ how_many (of_task j) xs) (cond-true (waits w) (w ∷ those waits ws) (those waits ws) e) l in
        let mine : w.task ≡ j = eqb-true w.task j q in
        let below : (v : Work) → In v ws → v.task ≡ j → v.release + (task_at s j).period ≤ w.release = λ v m f. subst (λ i. v.release + (task_at s i).period ≤ w.release) mine (far.0 v m (f ∙ sym mine)) in
        older (ih k w.release below (omega (arith, less, cond-true {A = ℕ} (of_task j w) 1 0 q))) mine
      where
        older : Waited s j ws (suc k) w.release → w.task ≡ j → Waited s j (w ∷ ws) (suc (suc k)) b
        older (v, here, open_job, same, old) mine = (v, inr here, open_job, same, omega (arith, old, low w (inl refl) mine, suc-mul (suc k) (task_at s j).period))

module _ (s : TaskSet) (st : State) (j k : ℕ) (full : refusal s st (release j) ≡ Some (QueueFull k)) where
  soon : Bool
  soon = any (λ w. of_task j w && ltb st.time (w.release + (task_at s j).period)) st.jobs

  -- what a refusal for a full line says
  full_facts : ((w : Work) → In w st.jobs → w.task ≡ j → w.release + (task_at s j).period ≤ st.time) × (longest_line ≤ how_many (of_task j) (waiting st))
  unfolding soon
  full_facts = go (cases_Bool (leb (task_count s) j)) (cases_Bool soon) (cases_Bool (leb longest_line (how_many (of_task j) (waiting st))))
    where
      rest : Option Refusal
      rest = cond (leb longest_line (how_many (of_task j) (waiting st))) (Some (QueueFull j)) None

      late : Option Refusal
      late = cond soon (Some (TooSoon j)) rest

      test : (w : Work) → w.task ≡ j → (of_task j w ≡ false) ⊎ (ltb st.time (w.release + (task_at s j).period) ≡ false) → w.release + (task_at s j).period ≤ st.time
      test w f (inl a) = absurd (both_ways (of_task j w) a (eq-eqb w.task j f))
      test w f (inr b) = ltb-false st.time (w.release + (task_at s j).period) b

      go : (leb (task_count s) j ≡ true) ⊎ (leb (task_count s) j ≡ false) → (soon ≡ true) ⊎ (soon ≡ false) → (leb longest_line (how_many (of_task j) (waiting st)) ≡ true) ⊎ (leb longest_line (how_many (of_task j) (waiting st)) ≡ false) → ((w : Work) → In w st.jobs → w.task ≡ j → w.release + (task_at s j).period ≤ st.time) × (longest_line ≤ how_many (of_task j) (waiting st))
      go (inl e) q r = let x = sym full ∙ cond-true (leb (task_count s) j) (Some (NoTaskToRun j)) late e in let z : ◌≡◌ {A = ℕ} 0 1 = cc in absurd (omega arith)
      go (inr e) (inl q) r = let x = sym full ∙ cond-false (leb (task_count s) j) (Some (NoTaskToRun j)) late e ∙ cond-true soon (Some (TooSoon j)) rest q in let z : ◌≡◌ {A = ℕ} 0 1 = cc in absurd (omega arith)
      go (inr e) (inr q) (inr r) = let x = sym full ∙ cond-false (leb (task_count s) j) (Some (NoTaskToRun j)) late e ∙ cond-false soon (Some (TooSoon j)) rest q ∙ cond-false (leb longest_line (how_many (of_task j) (waiting st))) (Some (QueueFull j)) None r in let z : ◌≡◌ {A = ℕ} 0 1 = cc in absurd (omega arith)
      go (inr e) (inr q) (inl r) = (λ w m f. test w f (and_cases (of_task j w) (ltb st.time (w.release + (task_at s j).period)) (any_none (λ w. of_task j w && ltb st.time (w.release + (task_at s j).period)) st.jobs q w m)), leb-true longest_line (how_many (of_task j) (waiting st)) r)

pub full_overdue : (s : TaskSet) (o : Order) → Checked s → FullLineOverdueItself s o
full_overdue s o checked calls j k full =
    let facts = placed_after s o calls in
    let told_facts = full_facts s (after s o calls) j k full in
    go facts (reach_back s j (after s o calls).jobs 7 (after s o calls).time facts.spaced told_facts.0 told_facts.1)
  where
    go : Placed s (after s o calls) → Waited s j (after s o calls).jobs 8 (after s o calls).time → OverdueOf s o calls j
    go facts (w, here, open_job, mine, old) =
        let known : j < task_count s = subst (λ i. i < task_count s) mine (facts.known w here) in
        (w, here, mine, open_job, omega (arith, old, (task_ranges s checked j known).deadline_periods))

-- an answer that tells a refusal comes from that refusal
told_refusal : (s : TaskSet) (o : Order) (st : State) (c : Call) (e : Refusal) → Refused e ≡ answer s o st c → refusal s st c ≡ Some e
unfolding answer
told_refusal s o st c e same = go (refusal s st c) refl same
  where
    not_told : (later : ℕ) (done : Bool) (r : Option Work) → Refused e ≡ told s done later r → ⊥
    not_told later done None f = let z : ◌≡◌ {A = ℕ} 0 1 = cc in omega arith
    not_told later done (Some w) f = two (cases_Bool (ends s done w))
      where
        two : (ends s done w ≡ true) ⊎ (ends s done w ≡ false) → ⊥
        two (inl b) = let g = f ∙ cond-true (ends s done w) (Finished w.task w.release (later - w.release)) (Ran w.task w.release) b in let z : ◌≡◌ {A = ℕ} 0 1 = cc in omega arith
        two (inr b) = let g = f ∙ cond-false (ends s done w) (Finished w.task w.release (later - w.release)) (Ran w.task w.release) b in let z : ◌≡◌ {A = ℕ} 0 1 = cc in omega arith

    not_replied : (d : Call) → Refused e ≡ reply s o st d → ⊥
    not_replied (release j) f = let z : ◌≡◌ {A = ℕ} 0 1 = cc in omega arith
    not_replied (tick done) f = not_told (st.time + 1) done (job_to_run s.mode o (waiting st)) f
    not_replied (look j) f = let z : ◌≡◌ {A = ℕ} 0 1 = cc in omega arith

    go : (r : Option Refusal) → refusal s st c ≡ r → Refused e ≡ answer_by s o st c r → refusal s st c ≡ Some e
    go None is f = absurd (not_replied c f)
    go (Some x) is f = is ∙ same_some
      where
        same_some : Some x ≡ Some e
        same_some = let same_one : x ≡ e = cc in ap Some same_one

-- a refusal among the answers is that of a call after some of the calls
refused_somewhere : (s : TaskSet) (o : Order) (e : Refusal) (before calls : List Call) → In (Refused e) (answers s o (play s o start before) calls) → (cs : List Call) × (c : Call) × (refusal s (play s o start cs) c ≡ Some e)
unfolding answers
refused_somewhere s o e before [] m = absurd m
refused_somewhere s o e before (c ∷ calls) (inl here) = (before, c, told_refusal s o (play s o start before) c e here)
refused_somewhere s o e before (c ∷ calls) (inr m) = refused_somewhere s o e (before ++ (c ∷ [])) calls (subst (λ st. In (Refused e) (answers s o st calls)) (sym (play_snoc s o start before c)) m)

-- only a release is refused for a full line
only_release : (s : TaskSet) (st : State) (c : Call) (k : ℕ) → refusal s st c ≡ Some (QueueFull k) → (j : ℕ) × (refusal s st (release j) ≡ Some (QueueFull k))
only_release s st (release j) k e = (j, e)
only_release s st (tick done) k e = absurd (go (cases_Bool (leb last_time st.time)))
  where
    go : (leb last_time st.time ≡ true) ⊎ (leb last_time st.time ≡ false) → ⊥
    go (inl b) = let x = sym e ∙ cond-true (leb last_time st.time) (Some TimeOver) None b in let z : ◌≡◌ {A = ℕ} 0 1 = cc in omega arith
    go (inr b) = let x = sym e ∙ cond-false (leb last_time st.time) (Some TimeOver) None b in let z : ◌≡◌ {A = ℕ} 0 1 = cc in omega arith
only_release s st (look j) k e = absurd (go (cases_Bool (leb (task_count s) j)))
  where
    go : (leb (task_count s) j ≡ true) ⊎ (leb (task_count s) j ≡ false) → ⊥
    go (inl b) = let x = sym e ∙ cond-true (leb (task_count s) j) (Some (NoTaskToRun j)) None b in let z : ◌≡◌ {A = ℕ} 0 1 = cc in omega arith
    go (inr b) = let x = sym e ∙ cond-false (leb (task_count s) j) (Some (NoTaskToRun j)) None b in let z : ◌≡◌ {A = ℕ} 0 1 = cc in omega arith

pub never_full : (s : TaskSet) (o : Order) (L : ℕ) → Checked s → Lawful s o → BusyPeriod s L → NeverFull s o L
unfolding play
never_full s o L checked law busy admitted calls k m =
    let found = refused_somewhere s o (QueueFull k) [] calls m in
    let at = only_release s (play s o start found.0) found.1 k found.2 in
    let late = full_overdue s o checked found.0 at.0 k at.1 in
    let w = late.0 in
    let known = (facts_after s o checked law found.0).known w late.1 in
    let worst = worst_exists s o L w.task checked law busy known in
    let young = never_longer s o L checked law busy found.0 w worst.0 worst.1 late.1 late.3 worst.2 in
    omega (arith, young, late.4, ap (λ i. (task_at s i).deadline) late.2, admitted w.task worst.0 worst.1 known worst.2)
