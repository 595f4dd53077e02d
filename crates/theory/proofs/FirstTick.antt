-- Where there is blocking only the blocker releases at 0, so the tick at 0 runs its job.
use Rattle.std.proofs.Common.{◌≡◌, ℕ, ◌+◌, ◌%◌, ◌≤◌, true, false, cond, not, ◌&&◌, eqb, ltb, leb, ◌⊎◌, Option, sym, refl, ◌∙◌, subst, inl, inr, arith}
use Rattle.std.proofs.lemmas.Bool.{cases_Bool, cases_eq, both_ways, and_parts, and_from, and_left, and_right, eqb-true, eq-eqb, leb-true, cond-false}
use Rattle.table.specs.Rules.{TaskSet, Checked, task_at, task_count}
use Rattle.table.proofs.Ranges.{task_ranges}
use Rattle.policy.specs.Order.{Order}
use Rattle.policy.specs.Laws.{Lawful}
use Rattle.theory.specs.Sums.{count_below}
use Rattle.theory.specs.Lists.{In}
use Rattle.theory.specs.Machine.{Work, State, waiting, run_in, run_one, same_work}
use Rattle.theory.specs.Course.{lead, blocker, releases_at}
use Rattle.theory.proofs.Search.{from_map}
use Rattle.theory.proofs.Works.{given, same_from}
use Rattle.theory.proofs.Keys.{in_number}
use Rattle.theory.proofs.Choice.{Choice, nobody, leader, kept}
use Rattle.theory.proofs.MachineFacts.{waits_of, waits_in, given_cases}
use Rattle.theory.proofs.Told.{once, told_own, told_other}
use Rattle.theory.proofs.Blockers.{lead_one}
use Rattle.theory.proofs.Stage.{Stage}

module _ (s : TaskSet) (o : Order) (checked : Checked s) (law : Lawful s o) (i a : ℕ) (blocks : lead s o i a ≡ 0 → ⊥) where
  told_zero : (j : ℕ) → releases_at s o i a j 0 ≡ true → j ≡ blocker s o i a
  told_zero j h = go (cases_eq j i) (cases_Bool (once s o i a j))
    where
      soon : (c : ℕ) → lead s o i a ≤ c → leb c 0 ≡ true → ⊥
      soon c le e = omega (arith, leb-true c 0 e, lead_one s o i a blocks)

      go : (j ≡ i) ⊎ (j ≡ i → ⊥) → (once s o i a j ≡ true) ⊎ (once s o i a j ≡ false) → j ≡ blocker s o i a
      go (inl e) f =
          let own = sym (told_own s o i a 0) ∙ subst (λ k. releases_at s o i a k 0 ≡ true) e h in
          absurd (soon (lead s o i a + a % (task_at s i).period) (omega arith) (and_parts (leb (lead s o i a + a % (task_at s i).period) 0) _ (and_parts (leb (lead s o i a + a % (task_at s i).period) 0 && leb 0 (lead s o i a + a)) _ own).0).0)
      go (inr ne) (inl f) = eqb-true j (blocker s o i a) (and_parts (not (eqb (lead s o i a) 0)) (eqb j (blocker s o i a)) f).1
      go (inr ne) (inr f) = absurd (soon (lead s o i a) (omega arith) (and_parts (leb (lead s o i a) 0) _ (sym (told_other s o i a j 0 ne f) ∙ h)).0)

  -- at the stage before the first tick every job is the blocker's, released at 0 and not yet run
  module _ (st : State) (g : Stage s o i a 0 (task_count s) st) (x : Work) (m : In x st.jobs) where
    fresh : (x.release ≡ 0) × (x.ran ≡ 0)
    fresh = let now = g.now in let p = g.facts.past x m in (omega arith, omega arith)

    first_finished : x.finished ≡ false
    first_finished = go (cases_Bool x.finished)
      where
        go : (x.finished ≡ true) ⊎ (x.finished ≡ false) → x.finished ≡ false
        go (inl e) = absurd (omega (arith, g.full x m e, fresh.1, (task_ranges s checked x.task (g.facts.known x m)).cost_low))
        go (inr e) = e

    first_task : x.task ≡ blocker s o i a
    unfolding count_below
    first_task = told_zero x.task (go (cases_Bool (releases_at s o i a x.task 0)))
      where
        some : 1 ≤ cond (ltb x.task (task_count s) && (releases_at s o i a x.task 0 && true)) 1 0
        some = omega (arith, g.counted x.task (g.facts.known x m) (λ r. true), in_number (λ k r. eqb k x.task && true) st.jobs x m (and_from _ _ (eq-eqb x.task x.task refl) refl))

        go : (releases_at s o i a x.task 0 ≡ true) ⊎ (releases_at s o i a x.task 0 ≡ false) → releases_at s o i a x.task 0 ≡ true
        go (inl e) = e
        go (inr e) = absurd (omega (arith, some, cond-false {A = ℕ} (ltb x.task (task_count s) && (releases_at s o i a x.task 0 && true)) 1 0 (and_right _ _ (and_left _ _ e))))

  -- the first tick runs the blocker's job
  pub first_tick : (st : State) → Stage s o i a 0 (task_count s) st → (r : Option Work) → Choice s.mode o (waiting st) r → (w : Work) → In w (run_in s false (st.time + 1) r st.jobs) → w.task ≡ blocker s o i a → 1 ≤ w.ran
  first_tick st g r (nobody n) w k e = absurd (n w (waits_in st w k (first_finished st g w k)))
  first_tick st g r (kept x m q b) w k e = absurd (omega (arith, (fresh st g x (waits_of st x m).0).1, leb-true 1 x.ran b))
  first_tick st g r (leader x m all none) w k e = at (from_map (given s false (st.time + 1) x) st.jobs w k)
    where
      at : (u : Work) × In u st.jobs × (w ≡ given s false (st.time + 1) x u) → 1 ≤ w.ran
      at (u, l, q) = go (given_cases s o checked law st false g.facts x (waits_of st x m).0 (waits_of st x m).1 u l)
        where
          go : ((u ≡ x) × (given s false (st.time + 1) x u ≡ run_one s false (st.time + 1) x)) ⊎ ((same_work u x ≡ false) × (given s false (st.time + 1) x u ≡ u)) → 1 ≤ w.ran
          go (inl (d, y)) = subst (λ z. 1 ≤ z.ran) (sym (q ∙ y)) (omega arith)
          go (inr (d, y)) = absurd (both_ways (same_work u x) d (same_from u x (first_task st g u l ∙ sym (first_task st g x (waits_of st x m).0)) ((fresh st g u l).0 ∙ sym (fresh st g x (waits_of st x m).0).0)))
