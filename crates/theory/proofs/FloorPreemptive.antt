-- Preemptive: in the worst course of (i, a) the job is not finished before F(a).
use Rattle.std.proofs.Common.{◌≡◌, ℕ, suc, ◌+◌, ◌-◌, ◌/◌, ◌<◌, ◌≤◌, true, false, ◌⊎◌, List, Option, sym, ap, ◌∙◌, subst, inl, inr, add-mul, arith}
use Rattle.std.proofs.lemmas.Bool.{both_ways, leb-true}
use Rattle.table.specs.Rules.{TaskSet, Checked, task_at, task_count}
use Rattle.table.specs.declared.kinds.Mode.TheVariants.{NonPreemptive, Preemptive}
use Rattle.policy.specs.Order.{Order}
use Rattle.policy.specs.Laws.{Lawful}
use Rattle.theory.specs.LeastSolution.{LeastSolution}
use Rattle.theory.specs.Lists.{In}
use Rattle.theory.specs.Machine.{Work, State, waiting, run_in, run_one, same_work}
use Rattle.theory.specs.Response.{work_ahead, until_finish}
use Rattle.theory.specs.Course.{lead, blocking_in}
use Rattle.theory.proofs.Search.{from_map}
use Rattle.theory.proofs.Works.{given}
use Rattle.theory.proofs.Choice.{Choice, nobody, leader, kept, front}
use Rattle.theory.proofs.MachineFacts.{waits_of, given_cases}
use Rattle.theory.proofs.Blockers.{lead_none}
use Rattle.theory.proofs.Existence.{until_finish_mono}
use Rattle.theory.proofs.Demand.{least_under, finish_first}
use Rattle.theory.proofs.Stage.{Stage, Keeps}
use Rattle.theory.proofs.Floor.{done_before}

modes_differ : Preemptive ≡ NonPreemptive → ⊥
modes_differ e = let z : ◌≡◌ {A = ℕ} 0 1 = cc in omega arith

module _ (s : TaskSet) (o : Order) (checked : Checked s) (law : Lawful s o) (i a : ℕ) (hi : i < task_count s) (preemptive : s.mode ≡ Preemptive) (F : ℕ) (sol : LeastSolution 1 (until_finish s o i a) F) where
  pub no_lead : lead s o i a ≡ 0
  no_lead = lead_none s o i a (ap (λ m. blocking_in m s o i a) preemptive)

  -- finished only from F on
  abbrev pub NotEarly : ℕ → List Work → Type 0
  NotEarly t jobs = (w : Work) → In w jobs → w.task ≡ i → w.release ≡ lead s o i a + a → w.finished ≡ true → F ≤ t

  late : (t : ℕ) (st : State) → Stage s o i a t (task_count s) st → (x : Work) → In x st.jobs → ((w : Work) → In w (waiting st) → front o x w ≡ true) → x.task ≡ i → x.release ≡ lead s o i a + a → (task_at s x.task).cost ≤ x.ran + 1 → F ≤ suc t
  late t st g x m all e f c =
      let cost : (task_at s i).cost ≤ x.ran + 1 = subst (λ k. (task_at s k).cost ≤ x.ran + 1) e c in
      let none : lead s o i a ≡ 0 = no_lead in
      let width : suc (t - lead s o i a) ≡ suc t = omega arith in
      least_under 1 (until_finish s o i a) F (suc t) sol (until_finish_mono s o checked law i a hi) (finish_first s o i a checked hi) (omega arith)
      (omega (arith, done_before s o checked law i a hi t st g x m e f all (λ h. absurd (h none)), ap (λ z. work_ahead s o i a z) width, add-mul 1 (a / (task_at s i).period) (task_at s i).cost))

  pub keeps_preemptive : Keeps s o i a NotEarly
  keeps_preemptive = record { first = λ w m. absurd m; released = λ t m st g inv w k. new t m st inv w k; ticked = λ t st g inv r c. tick t st g inv r c }
    where
      new : (t m : ℕ) (st : State) → NotEarly t st.jobs → (w : Work) → (w ≡ record { task = m; release = st.time; ran = 0; finished = false; response = 0 }) ⊎ In w st.jobs → w.task ≡ i → w.release ≡ lead s o i a + a → w.finished ≡ true → F ≤ t
      new t m st inv w (inl q) e f h = absurd (both_ways w.finished (ap (λ z. z.finished) q) h)
      new t m st inv w (inr k) e f h = inv w k e f h

      tick : (t : ℕ) (st : State) → Stage s o i a t (task_count s) st → NotEarly t st.jobs → (r : Option Work) → Choice s.mode o (waiting st) r → NotEarly (suc t) (run_in s false (st.time + 1) r st.jobs)
      tick t st g inv r (nobody n) w k e f h = omega (arith, inv w k e f h)
      tick t st g inv r (kept x m q b) w k e f h = absurd (modes_differ (sym preemptive ∙ q))
      tick t st g inv r (leader x m all none) w k e f h = at (from_map (given s false (st.time + 1) x) st.jobs w k)
        where
          at : (u : Work) × In u st.jobs × (w ≡ given s false (st.time + 1) x u) → F ≤ suc t
          at (u, l, q) = go (given_cases s o checked law st false g.facts x (waits_of st x m).0 (waits_of st x m).1 u l)
            where
              go : ((u ≡ x) × (given s false (st.time + 1) x u ≡ run_one s false (st.time + 1) x)) ⊎ ((same_work u x ≡ false) × (given s false (st.time + 1) x u ≡ u)) → F ≤ suc t
              go (inl (d, y)) =
                  let z : w ≡ run_one s false (st.time + 1) x = q ∙ y in
                  late t st g x (waits_of st x m).0 all (sym (ap (λ v. v.task) z) ∙ e) (sym (ap (λ v. v.release) z) ∙ f) (leb-true (task_at s x.task).cost (x.ran + 1) (sym (ap (λ v. v.finished) z) ∙ h))
              go (inr (d, y)) =
                  let z : w ≡ u = q ∙ y in
                  omega (arith, inv u l (sym (ap (λ v. v.task) z) ∙ e) (sym (ap (λ v. v.release) z) ∙ f) (sym (ap (λ v. v.finished) z) ∙ h))
