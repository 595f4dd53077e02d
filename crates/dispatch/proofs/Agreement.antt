-- The task that a station picks has the job that the reference machine runs as its first.
use Rattle.std.proofs.Common.{◌≡◌, ℕ, ◌<◌, ◌≤◌, true, false, ◌&&◌, eqb, ◌⊎◌, List, [], ◌∷◌, pos, Some, None, Option, sym, refl, ap, ◌∙◌, subst, inl, inr, arith}
use Rattle.std.proofs.lemmas.Bool.{cases_Bool, both_ways, cases_eq, or_cases, leb-true, leb-false}
use Rattle.table.specs.Rules.{TaskSet, Checked, task_count}
use Rattle.table.specs.declared.kinds.Mode.{Mode}
use Rattle.table.specs.declared.kinds.Mode.TheVariants.{NonPreemptive, Preemptive}
use Rattle.policy.specs.Answers.{ahead_answer}
use Rattle.policy.specs.Laws.{Lawful}
use Rattle.policy.specs.Order.{Order, job}
use Rattle.theory.specs.Lists.{In}
use Rattle.theory.specs.Machine.{Work, State, same_work, begun, waiting}
use Rattle.theory.proofs.Choice.{Choice, nobody, leader, kept, front}
use Rattle.theory.proofs.MachineFacts.{Facts, facts_apart, waits_of, waits_in}
use Rattle.theory.proofs.Orders.{leads_own_only, leads}
use Rattle.theory.proofs.Search.{none_some, some_same}
use Rattle.theory.proofs.Works.{same_one}
use Rattle.dispatch.specs.Leading.{first_release, Leads, Picked}
use Rattle.dispatch.specs.Represents.{ran_first, Fits}
use Rattle.dispatch.specs.Summaries.{Summary, Pending, summed}
use Rattle.dispatch.specs.declared.stage.Stage.{Stage}
use Rattle.dispatch.specs.declared.stage.Stage.TheVariants.{Idle, Begun}
use Rattle.dispatch.proofs.Ahead.{answers_ahead}
use Rattle.dispatch.proofs.Sources.{pending_of, Source, from_waiting, to_waiting, first_oldest}

-- only the first has run
abbrev pub Plain : List Pending → Type 0
Plain us = (p : Pending) (ps : List Pending) → us ≡ p ∷ ps → (q : Pending) → In q ps → q.ran ≡ 0

opened : (us : List Pending) (q : ℕ) → first_release us ≡ Some q → (p : Pending) × (ps : List Pending) × (us ≡ p ∷ ps) × (p.release ≡ q)
opened [] q e = absurd (none_some e)
opened (p ∷ ps) q e = (p, ps, refl, some_same e)

filled : (us : List Pending) (p : Pending) → In p us → (q : Pending) × (qs : List Pending) × (us ≡ q ∷ qs)
filled [] p m = absurd m
filled (q ∷ qs) p m = (q, qs, refl)

begun_first : (us : List Pending) → 1 ≤ ran_first us → (q : Pending) × (qs : List Pending) × (us ≡ q ∷ qs) × (1 ≤ q.ran)
begun_first [] h = absurd (omega arith)
begun_first (q ∷ qs) h = (q, qs, refl, h)

-- a job that has run is the first
ran_is_first : (us : List Pending) → Plain us → (p : Pending) → In p us → 1 ≤ p.ran → (qs : List Pending) × (us ≡ p ∷ qs) × (1 ≤ ran_first us)
ran_is_first [] plain p m h = absurd m
ran_is_first (q ∷ qs) plain p (inl e) h = (qs, ap (λ z. z ∷ qs) (sym e), omega (arith, ap (λ (z : Pending). z.ran) e))
ran_is_first (q ∷ qs) plain p (inr m) h = absurd (omega (arith, plain q qs refl p m))

module _ (s : TaskSet) (o : Order) (checked : Checked s) (law : Lawful s o) (st : State) (f : Facts s st) (early : st.time ≤ 4000000000) (b : ℕ → Summary) (same : (j : ℕ) → j < task_count s → b j ≡ summed s j st.jobs) (plain : (j : ℕ) → j < task_count s → Plain (b j).waiting) where
  -- the job x is the first of the line of task i
  pub record First (x : Work) (i : ℕ) : Type 0 where
    pub known : i < task_count s
    pub inside : In x st.jobs
    pub mine : x.task ≡ i
    pub rest : List Pending
    pub waiting : (b i).waiting ≡ pending_of x ∷ rest

  abbrev pub Same : Option Work → Option ℕ → Type 0
  Same None None = Unit {0}
  Same None (Some i) = ⊥
  Same (Some x) None = ⊥
  Same (Some x) (Some i) = First x i

  -- the job behind a waiting one
  source : (j : ℕ) → j < task_count s → (p : Pending) → In p (b j).waiting → Source s j st.jobs p
  source j h p m = from_waiting s j st.jobs p (subst (λ (u : Summary). In p u.waiting) (same j h) m)

  source_waits : (j : ℕ) (p : Pending) (y : Source s j st.jobs p) → In y.work (waiting st)
  source_waits j p y = waits_in st y.work y.inside y.unfinished

  -- where a waiting job stands
  stands : (x : Work) → In x (waiting st) → In (pending_of x) (b x.task).waiting
  stands x m =
      let w = waits_of st x m in
      subst (λ (u : Summary). In (pending_of x) u.waiting) (sym (same x.task (f.known x w.0))) (to_waiting s x.task st.jobs x w.0 refl w.1)

  known_of : (x : Work) → In x (waiting st) → x.task < task_count s
  known_of x m = f.known x (waits_of st x m).0

  nobody_leads : ((w : Work) → In w (waiting st) → ⊥) → (c : Option ℕ) → Leads (ahead_answer s o) b (task_count s) c → Same None c
  nobody_leads none None h = tt
  nobody_leads none (Some i) (q, (lt, is, h)) =
      let p = opened (b i).waiting q is in
      let y = source i lt p.0 (subst (In p.0) (sym p.2) (inl refl)) in
      none y.work (source_waits i p.0 y)

  -- the leader of all that wait is the first of its line
  leads_line : (x : Work) → In x (waiting st) → ((w : Work) → In w (waiting st) → front o x w ≡ true) → first_release (b x.task).waiting ≡ Some x.release
  leads_line x m all = go (filled (b x.task).waiting (pending_of x) (stands x m))
    where
      go : (q : Pending) × (qs : List Pending) × ((b x.task).waiting ≡ q ∷ qs) → first_release (b x.task).waiting ≡ Some x.release
      go (q, qs, e) =
          let lt = known_of x m in
          let z = source x.task lt q (subst (In q) (sym e) (inl refl)) in
          let old : q.release ≤ x.release = first_oldest s x.task st.jobs q (pending_of x) qs f.spaced (sym (ap (λ (u : Summary). u.waiting) (same x.task lt)) ∙ e) (subst (In (pending_of x)) e (stands x m)) in
          let led : leads o x.task z.work.release x.task x.release ≡ true = subst (λ i. leads o i z.work.release x.task x.release ≡ true) z.mine (all z.work (source_waits x.task q z)) in
          let new : x.release ≤ z.work.release = leads_own_only s o law x.task z.work.release x.release lt led in
          let is : q.release ≡ x.release = omega (arith, ap (λ (u : Pending). u.release) z.is) in
          ap first_release e ∙ ap Some is

  leader_leads : (x : Work) → In x (waiting st) → ((w : Work) → In w (waiting st) → front o x w ≡ true) → (c : Option ℕ) → Leads (ahead_answer s o) b (task_count s) c → Same (Some x) c
  leader_leads x m all None h = none_some (sym (h x.task (known_of x m)) ∙ leads_line x m all)
  leader_leads x m all (Some i) (q, (lt, is, behind)) = go (opened (b i).waiting q is)
    where
      go : (p : Pending) × (ps : List Pending) × ((b i).waiting ≡ p ∷ ps) × (p.release ≡ q) → First x i
      go (p, ps, e, at) = two (cases_Bool (same_work x y.work))
        where
          y : Source s i st.jobs p
          y = source i lt p (subst (In p) (sym e) (inl refl))

          found : x ≡ y.work → First x i
          found d = record { known = lt; inside = (waits_of st x m).0; mine = ap (λ z. z.task) d ∙ y.mine; rest = ps; waiting = e ∙ ap (λ u. u ∷ ps) (sym y.is ∙ ap (λ z. pending_of z) (sym d)) }

          two : (same_work x y.work ≡ true) ⊎ (same_work x y.work ≡ false) → First x i
          two (inl d) = found (same_one st.jobs (facts_apart s st checked f) x y.work (waits_of st x m).0 y.inside d)
          two (inr d) = absurd (both_ways (ahead_answer s o (job x.task (pos x.release)) (job i (pos q))) (behind x.task x.release (known_of x m) (leads_line x m all)) yes_ahead)
            where
              there : y.work.release ≡ q
              there = ap (λ (u : Pending). u.release) y.is ∙ at

              ahead_y : o.ahead (job x.task (pos x.release)) (job y.work.task (pos y.work.release)) ≡ true
              ahead_y = rest_of (or_cases (same_work x y.work) (o.ahead (job x.task (pos x.release)) (job y.work.task (pos y.work.release))) (all y.work (source_waits i p y)))
                where
                  rest_of : (same_work x y.work ≡ true) ⊎ (o.ahead (job x.task (pos x.release)) (job y.work.task (pos y.work.release)) ≡ true) → o.ahead (job x.task (pos x.release)) (job y.work.task (pos y.work.release)) ≡ true
                  rest_of (inl g) = absurd (both_ways (same_work x y.work) d g)
                  rest_of (inr g) = g

              yes_ahead : ahead_answer s o (job x.task (pos x.release)) (job i (pos q)) ≡ true
              yes_ahead = answers_ahead s o x.task x.release i q (known_of x m) lt (omega (arith, f.past x (waits_of st x m).0)) (omega (arith, f.past y.work y.inside, there))
                  (ap (λ n. eqb x.task n && eqb x.release q) (sym y.mine) ∙ ap (λ n. eqb x.task y.work.task && eqb x.release n) (sym there) ∙ d)
                  (subst (λ n. o.ahead (job x.task (pos x.release)) (job n (pos q)) ≡ true) y.mine (subst (λ n. o.ahead (job x.task (pos x.release)) (job y.work.task (pos n)) ≡ true) there ahead_y))

  -- without preemption: the begun job is the first of the line that the stage tells
  kept_at : (x : Work) → In x (waiting st) → begun x ≡ true → (stage : Stage) → Fits stage (task_count s) b → (c : Option ℕ) → Picked NonPreemptive stage (ahead_answer s o) b (task_count s) c → Same (Some x) c
  kept_at x m on Idle fits c h = absurd (omega (arith, fits x.task (known_of x m), (ran_is_first (b x.task).waiting (plain x.task (known_of x m)) (pending_of x) (stands x m) (leb-true 1 x.ran on)).2))
  kept_at x m on (Begun i) (lt, here, others) c h = go (cases_eq x.task i)
    where
      ran : (qs : List Pending) × ((b x.task).waiting ≡ pending_of x ∷ qs) × (1 ≤ ran_first (b x.task).waiting)
      ran = ran_is_first (b x.task).waiting (plain x.task (known_of x m)) (pending_of x) (stands x m) (leb-true 1 x.ran on)

      go : (x.task ≡ i) ⊎ (x.task ≡ i → ⊥) → Same (Some x) c
      go (inl e) = subst (Same (Some x)) (sym h) (record { known = lt; inside = (waits_of st x m).0; mine = e; rest = ran.0; waiting = subst (λ k. (b k).waiting ≡ pending_of x ∷ ran.0) e ran.1 })
      go (inr ne) = absurd (omega (arith, others x.task (known_of x m) ne, ran.2))

  -- where nothing is begun, the stage is idle
  not_begun : (i : ℕ) → i < task_count s → 1 ≤ ran_first (b i).waiting → ((w : Work) → In w (waiting st) → begun w ≡ false) → ⊥
  not_begun i lt h none = go (begun_first (b i).waiting h)
    where
      go : (q : Pending) × (qs : List Pending) × ((b i).waiting ≡ q ∷ qs) × (1 ≤ q.ran) → ⊥
      go (q, qs, e, on) =
          let y = source i lt q (subst (In q) (sym e) (inl refl)) in
          omega (arith, leb-false 1 y.work.ran (none y.work (source_waits i q y)), ap (λ (u : Pending). u.ran) y.is)

  idle_picks : (stage : Stage) → Fits stage (task_count s) b → ((w : Work) → In w (waiting st) → begun w ≡ false) → (c : Option ℕ) → Picked NonPreemptive stage (ahead_answer s o) b (task_count s) c → Leads (ahead_answer s o) b (task_count s) c
  idle_picks Idle fits none c h = h
  idle_picks (Begun i) (lt, here, others) none c h = absurd (not_begun i lt here none)

  abbrev pub Fitting : Mode → Stage → Type 0
  Fitting m stage = m ≡ NonPreemptive → Fits stage (task_count s) b

  leads_of : (m : Mode) (stage : Stage) → Fitting m stage → (m ≡ NonPreemptive → (w : Work) → In w (waiting st) → begun w ≡ false) → (c : Option ℕ) → Picked m stage (ahead_answer s o) b (task_count s) c → Leads (ahead_answer s o) b (task_count s) c
  leads_of NonPreemptive stage fits none c h = idle_picks stage (fits refl) (none refl) c h
  leads_of Preemptive stage fits none c h = h

  pub agree : (m : Mode) (stage : Stage) → Fitting m stage → (r : Option Work) → Choice m o (waiting st) r → (c : Option ℕ) → Picked m stage (ahead_answer s o) b (task_count s) c → Same r c
  agree m stage fits r (nobody none) c h = nobody_leads none c (leads_of m stage fits (λ q w k. absurd (none w k)) c h)
  agree m stage fits r (leader x k all none) c h = leader_leads x k all c (leads_of m stage fits none c h)
  agree m stage fits r (kept x k q on) c h = kept_at x k on stage (fits q) c (subst (λ n. Picked n stage (ahead_answer s o) b (task_count s) c) q h)

  -- where nobody waits no first job has run
  pub nobody_fits : ((w : Work) → In w (waiting st) → ⊥) → (j : ℕ) → j < task_count s → ran_first (b j).waiting ≡ 0
  nobody_fits none j lt = go (b j).waiting refl
    where
      go : (us : List Pending) → (b j).waiting ≡ us → ran_first us ≡ 0
      go [] e = refl
      go (q ∷ qs) e = let y = source j lt q (subst (In q) (sym e) (inl refl)) in absurd (none y.work (source_waits j q y))
