-- When a tick of the worst course runs the job of i at lead + a as the leader of all that wait, what the analysis asks for has been done.
use Rattle.std.proofs.Common.{◌≡◌, ℕ, suc, ◌+◌, ◌-◌, ◌*◌, ◌/◌, ◌<◌, ◌≤◌, true, false, not, ◌&&◌, eqb, ◌⊎◌, pos, sym, ap, ◌∙◌, subst, inl, inr, arith}
use Rattle.std.proofs.lemmas.Bool.{cases_Bool, both_ways, or_cases, and_parts, eqb-true}
use Rattle.table.specs.Rules.{TaskSet, Checked, task_at, task_count}
use Rattle.policy.specs.Order.{Order, job}
use Rattle.policy.specs.Laws.{Lawful}
use Rattle.theory.specs.Lists.{In}
use Rattle.theory.specs.Machine.{Work, State, waiting}
use Rattle.theory.specs.Response.{work_ahead}
use Rattle.theory.specs.Course.{lead, blocker, course_blocking}
use Rattle.theory.proofs.Orders.{leads, job_task, job_release}
use Rattle.theory.proofs.Choice.{front}
use Rattle.theory.proofs.MachineFacts.{facts_apart, waits_in}
use Rattle.theory.proofs.Stage.{Stage, stage_told}
use Rattle.theory.proofs.Pressed.{pressed}

module _ (s : TaskSet) (o : Order) (law : Lawful s o) where
  -- two jobs do not lead each other
  pub leads_both : (i a j r : ℕ) → i < task_count s → j < task_count s → (j ≡ i → r ≡ a → ⊥) → leads o i a j r ≡ true → leads o j r i a ≡ true → ⊥
  leads_both i a j r hi hj ne h g = both_ways (o.ahead (job j (pos r)) (job i (pos a))) (law.total (job j (pos r)) (job i (pos a)) hj hi (λ e. ne (job_task e) (job_release e)) ∙ ap not back) there
    where
      there : o.ahead (job j (pos r)) (job i (pos a)) ≡ true
      there = go (or_cases (eqb j i && eqb r a) _ h)
        where
          go : ((eqb j i && eqb r a) ≡ true) ⊎ (o.ahead (job j (pos r)) (job i (pos a)) ≡ true) → o.ahead (job j (pos r)) (job i (pos a)) ≡ true
          go (inl e) = let p = and_parts (eqb j i) (eqb r a) e in absurd (ne (eqb-true j i p.0) (eqb-true r a p.1))
          go (inr e) = e

      back : o.ahead (job i (pos a)) (job j (pos r)) ≡ true
      back = go (or_cases (eqb i j && eqb a r) _ g)
        where
          go : ((eqb i j && eqb a r) ≡ true) ⊎ (o.ahead (job i (pos a)) (job j (pos r)) ≡ true) → o.ahead (job i (pos a)) (job j (pos r)) ≡ true
          go (inl e) = let p = and_parts (eqb i j) (eqb a r) e in absurd (ne (sym (eqb-true i j p.0)) (sym (eqb-true a r p.1)))
          go (inr e) = e

module _ (s : TaskSet) (o : Order) (checked : Checked s) (law : Lawful s o) (i a : ℕ) (hi : i < task_count s)
    (t : ℕ) (st : State) (g : Stage s o i a t (task_count s) st) (x : Work) (inside : In x st.jobs)
    (x_task : x.task ≡ i) (x_release : x.release ≡ lead s o i a + a) (first : (w : Work) → In w (waiting st) → front o x w ≡ true)
    (past : (lead s o i a ≡ 0 → ⊥) → (w : Work) → In w st.jobs → w.task ≡ blocker s o i a → w.release ≡ 0 → (task_at s w.task).cost ≤ w.ran) where
  led : (w : Work) → In w st.jobs → (w.task ≡ i → w.release ≡ lead s o i a + a → ⊥) → leads o i (lead s o i a + a) w.task w.release ≡ true → (task_at s w.task).cost ≤ w.ran
  led w m ne h = go (cases_Bool w.finished)
    where
      turned : (j r : ℕ) → x.task ≡ j → x.release ≡ r → leads o w.task w.release x.task x.release ≡ true → leads o w.task w.release j r ≡ true
      turned j r e f q = subst (λ k. leads o w.task w.release k r ≡ true) e (subst (λ k. leads o w.task w.release x.task k ≡ true) f q)

      go : (w.finished ≡ true) ⊎ (w.finished ≡ false) → (task_at s w.task).cost ≤ w.ran
      go (inl e) = g.full w m e
      go (inr e) = absurd (leads_both s o law i (lead s o i a + a) w.task w.release hi (g.facts.known w m) ne h (turned i (lead s o i a + a) x_task x_release (first w (waits_in st w m e))))

  pub done_before : ((a / (task_at s i).period * (task_at s i).cost + x.ran) + work_ahead s o i a (suc (t - lead s o i a))) + (lead s o i a + course_blocking s o i a) ≤ t
  done_before =
      let now = g.now in
      let by : lead s o i a + a ≤ t = omega (arith, g.facts.past x inside) in
      omega (arith, g.worked, pressed s o checked law i a hi t st.jobs x by g.facts.known (facts_apart s st checked g.facts) (stage_told s o checked law i a t st g) inside x_task x_release led past)

  pub begun_late : lead s o i a + a ≤ t
  begun_late = let now = g.now in omega (arith, g.facts.past x inside)
