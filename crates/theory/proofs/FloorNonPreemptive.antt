-- Non-preemptive: in the worst course of (i, a) the job does not begin before lead + G(a).
use Rattle.std.proofs.Common.{◌≡◌, ℕ, suc, ◌+◌, ◌-◌, ◌<◌, ◌≤◌, true, false, ◌⊎◌, List, Option, sym, ap, ◌∙◌, subst, inl, inr, arith}
use Rattle.std.proofs.lemmas.Bool.{both_ways, leb-true, leb-false, le-leb, cases_Bool, cases_eq}
use Rattle.table.specs.Rules.{TaskSet, Checked, task_at, task_count}
use Rattle.table.specs.declared.kinds.Mode.TheVariants.{NonPreemptive}
use Rattle.policy.specs.Order.{Order}
use Rattle.policy.specs.Laws.{Lawful}
use Rattle.theory.specs.LeastSolution.{LeastSolution}
use Rattle.theory.specs.Lists.{In}
use Rattle.theory.specs.Machine.{Work, State, waiting, run_in, run_one, same_work, begun}
use Rattle.theory.specs.Response.{blocking, until_start}
use Rattle.theory.specs.Course.{lead, blocker, blocking_in, course_blocking}
use Rattle.theory.proofs.Search.{from_map}
use Rattle.theory.proofs.Works.{given}
use Rattle.theory.proofs.Choice.{Choice, nobody, leader, kept, front}
use Rattle.theory.proofs.MachineFacts.{waits_of, waits_in, given_cases}
use Rattle.theory.proofs.Existence.{until_start_mono}
use Rattle.theory.proofs.Demand.{least_under}
use Rattle.theory.proofs.Stage.{Stage, Keeps}
use Rattle.theory.proofs.Floor.{done_before, begun_late}
use Rattle.theory.proofs.FirstTick.{first_tick}

module _ (s : TaskSet) (o : Order) (checked : Checked s) (law : Lawful s o) (i a : ℕ) (hi : i < task_count s) (holding : s.mode ≡ NonPreemptive) (G : ℕ) (sol : LeastSolution 0 (until_start s o i a) G) where
  -- once begun it has run since lead + G at the earliest
  abbrev pub NotEarly : ℕ → List Work → Type 0
  NotEarly t jobs = (w : Work) → In w jobs → w.task ≡ i → w.release ≡ lead s o i a + a → 1 ≤ w.ran → lead s o i a + (G + w.ran) ≤ t

  -- the blocker has begun with the first tick
  abbrev pub BlockerBegun : ℕ → List Work → Type 0
  BlockerBegun t jobs = (lead s o i a ≡ 0 → ⊥) → 1 ≤ t → (w : Work) → In w jobs → w.task ≡ blocker s o i a → w.release ≡ 0 → 1 ≤ w.ran

  late : (t : ℕ) (st : State) → Stage s o i a t (task_count s) st → BlockerBegun t st.jobs → (x : Work) → In x st.jobs → ((w : Work) → In w (waiting st) → front o x w ≡ true) → ((w : Work) → In w (waiting st) → begun w ≡ false) → x.task ≡ i → x.release ≡ lead s o i a + a → lead s o i a + G ≤ t
  late t st g first x m all none e f =
      let from : lead s o i a + a ≤ t = begun_late s o checked law i a hi t st g x m e f all past in
      let same : course_blocking s o i a ≡ blocking s o i a = ap (λ q. blocking_in q s o i a) holding in
      let under = least_under 0 (until_start s o i a) G (t - lead s o i a) sol (until_start_mono s o checked law i a hi) (omega arith) (omega arith) (omega (arith, done_before s o checked law i a hi t st g x m e f all past)) in
      omega arith
    where
      past : (lead s o i a ≡ 0 → ⊥) → (w : Work) → In w st.jobs → w.task ≡ blocker s o i a → w.release ≡ 0 → (task_at s w.task).cost ≤ w.ran
      past h w k p q = go (cases_Bool w.finished)
        where
          time : 1 ≤ t
          time = let now = g.now in omega (arith, g.facts.past x m, h)

          go : (w.finished ≡ true) ⊎ (w.finished ≡ false) → (task_at s w.task).cost ≤ w.ran
          go (inl y) = g.full w k y
          go (inr y) = absurd (both_ways (begun w) (none w (waits_in st w k y)) (le-leb 1 w.ran (first h time w k p q)))

  pub keeps_non_preemptive : Keeps s o i a (λ t jobs. NotEarly t jobs × BlockerBegun t jobs)
  keeps_non_preemptive = record {
    first = (λ w m. absurd m, λ h p w m. absurd m);
    released = λ t m st g inv. (λ w k. new t m st inv.0 w k, λ h p w k. other t m st g inv.1 h p w k);
    ticked = λ t st g inv r c. (tick t st g inv r c, λ h p w k e f. more t st g inv.1 r c h w k e f (cases_eq t 0));
  }
    where
      new : (t m : ℕ) (st : State) → NotEarly t st.jobs → (w : Work) → (w ≡ record { task = m; release = st.time; ran = 0; finished = false; response = 0 }) ⊎ In w st.jobs → w.task ≡ i → w.release ≡ lead s o i a + a → 1 ≤ w.ran → lead s o i a + (G + w.ran) ≤ t
      new t m st inv w (inl q) e f h = absurd (omega (arith, ap (λ (z : Work). z.ran) q))
      new t m st inv w (inr k) e f h = inv w k e f h

      other : (t m : ℕ) (st : State) → Stage s o i a t m st → BlockerBegun t st.jobs → (lead s o i a ≡ 0 → ⊥) → 1 ≤ t → (w : Work) → (w ≡ record { task = m; release = st.time; ran = 0; finished = false; response = 0 }) ⊎ In w st.jobs → w.task ≡ blocker s o i a → w.release ≡ 0 → 1 ≤ w.ran
      other t m st g inv h p w (inl q) e f = absurd (omega (arith, ap (λ (z : Work). z.release) q, g.now))
      other t m st g inv h p w (inr k) e f = inv h p w k e f

      tick : (t : ℕ) (st : State) → Stage s o i a t (task_count s) st → NotEarly t st.jobs × BlockerBegun t st.jobs → (r : Option Work) → Choice s.mode o (waiting st) r → NotEarly (suc t) (run_in s false (st.time + 1) r st.jobs)
      tick t st g inv r (nobody n) w k e f h = omega (arith, inv.0 w k e f h)
      tick t st g inv r (kept x m q b) w k e f h = at (from_map (given s false (st.time + 1) x) st.jobs w k)
        where
          at : (u : Work) × In u st.jobs × (w ≡ given s false (st.time + 1) x u) → lead s o i a + (G + w.ran) ≤ suc t
          at (u, l, p) = go (given_cases s o checked law st false g.facts x (waits_of st x m).0 (waits_of st x m).1 u l)
            where
              go : ((u ≡ x) × (given s false (st.time + 1) x u ≡ run_one s false (st.time + 1) x)) ⊎ ((same_work u x ≡ false) × (given s false (st.time + 1) x u ≡ u)) → lead s o i a + (G + w.ran) ≤ suc t
              go (inl (d, y)) =
                  let z : w ≡ run_one s false (st.time + 1) x = p ∙ y in
                  omega (arith, inv.0 x (waits_of st x m).0 (sym (ap (λ v. v.task) z) ∙ e) (sym (ap (λ v. v.release) z) ∙ f) (leb-true 1 x.ran b), ap (λ (v : Work). v.ran) z)
              go (inr (d, y)) =
                  let z : w ≡ u = p ∙ y in
                  omega (arith, inv.0 u l (sym (ap (λ v. v.task) z) ∙ e) (sym (ap (λ v. v.release) z) ∙ f) (subst (λ (v : Work). 1 ≤ v.ran) z h), ap (λ (v : Work). v.ran) z)
      tick t st g inv r (leader x m all none) w k e f h = at (from_map (given s false (st.time + 1) x) st.jobs w k)
        where
          at : (u : Work) × In u st.jobs × (w ≡ given s false (st.time + 1) x u) → lead s o i a + (G + w.ran) ≤ suc t
          at (u, l, p) = go (given_cases s o checked law st false g.facts x (waits_of st x m).0 (waits_of st x m).1 u l)
            where
              go : ((u ≡ x) × (given s false (st.time + 1) x u ≡ run_one s false (st.time + 1) x)) ⊎ ((same_work u x ≡ false) × (given s false (st.time + 1) x u ≡ u)) → lead s o i a + (G + w.ran) ≤ suc t
              go (inl (d, y)) =
                  let z : w ≡ run_one s false (st.time + 1) x = p ∙ y in
                  omega (arith, late t st g inv.1 x (waits_of st x m).0 all (none holding) (sym (ap (λ v. v.task) z) ∙ e) (sym (ap (λ v. v.release) z) ∙ f), leb-false 1 x.ran (none holding x m), ap (λ (v : Work). v.ran) z)
              go (inr (d, y)) =
                  let z : w ≡ u = p ∙ y in
                  omega (arith, inv.0 u l (sym (ap (λ v. v.task) z) ∙ e) (sym (ap (λ v. v.release) z) ∙ f) (subst (λ (v : Work). 1 ≤ v.ran) z h), ap (λ (v : Work). v.ran) z)

      -- a job that has begun has begun after the tick
      grown : (t : ℕ) (st : State) → Stage s o i a t (task_count s) st → BlockerBegun t st.jobs → (lead s o i a ≡ 0 → ⊥) → 1 ≤ t → (x : Work) → In x (waiting st) → (w : Work) → w.task ≡ blocker s o i a → w.release ≡ 0 → (u : Work) × In u st.jobs × (w ≡ given s false (st.time + 1) x u) → 1 ≤ w.ran
      grown t st g inv h p x m w e f (u, l, q) = go (given_cases s o checked law st false g.facts x (waits_of st x m).0 (waits_of st x m).1 u l)
        where
          go : ((u ≡ x) × (given s false (st.time + 1) x u ≡ run_one s false (st.time + 1) x)) ⊎ ((same_work u x ≡ false) × (given s false (st.time + 1) x u ≡ u)) → 1 ≤ w.ran
          go (inl (d, y)) = omega (arith, ap (λ (v : Work). v.ran) (q ∙ y))
          go (inr (d, y)) =
              let z : w ≡ u = q ∙ y in
              omega (arith, inv h p u l (sym (ap (λ v. v.task) z) ∙ e) (sym (ap (λ v. v.release) z) ∙ f), ap (λ (v : Work). v.ran) z)

      later : (t : ℕ) (st : State) → Stage s o i a t (task_count s) st → BlockerBegun t st.jobs → (r : Option Work) → Choice s.mode o (waiting st) r → (lead s o i a ≡ 0 → ⊥) → 1 ≤ t → (w : Work) → In w (run_in s false (st.time + 1) r st.jobs) → w.task ≡ blocker s o i a → w.release ≡ 0 → 1 ≤ w.ran
      later t st g inv r (nobody n) h p w k e f = inv h p w k e f
      later t st g inv r (kept x m q b) h p w k e f = grown t st g inv h p x m w e f (from_map (given s false (st.time + 1) x) st.jobs w k)
      later t st g inv r (leader x m all none) h p w k e f = grown t st g inv h p x m w e f (from_map (given s false (st.time + 1) x) st.jobs w k)

      more : (t : ℕ) (st : State) → Stage s o i a t (task_count s) st → BlockerBegun t st.jobs → (r : Option Work) → Choice s.mode o (waiting st) r → (lead s o i a ≡ 0 → ⊥) → (w : Work) → In w (run_in s false (st.time + 1) r st.jobs) → w.task ≡ blocker s o i a → w.release ≡ 0 → (t ≡ 0) ⊎ (t ≡ 0 → ⊥) → 1 ≤ w.ran
      more t st g inv r c h w k e f (inl z) = first_tick s o checked law i a h st (subst (λ u. Stage s o i a u (task_count s) st) z g) r c w k e
      more t st g inv r c h w k e f (inr z) = later t st g inv r c h (omega (arith, z)) w k e f
