-- Both modes: in the worst course of (i, a) the job takes at least the response at a.
use Rattle.std.proofs.Common.{◌≡◌, ℕ, ◌+◌, ◌<◌, ◌≤◌, true, List, refl, subst, arith}
use Rattle.table.specs.Rules.{TaskSet, Checked, task_at, task_count}
use Rattle.table.specs.declared.kinds.Mode.{Mode}
use Rattle.table.specs.declared.kinds.Mode.TheVariants.{NonPreemptive, Preemptive}
use Rattle.table.proofs.Ranges.{task_ranges}
use Rattle.policy.specs.Order.{Order}
use Rattle.policy.specs.Laws.{Lawful}
use Rattle.theory.specs.Lists.{In}
use Rattle.theory.specs.Machine.{Work, State}
use Rattle.theory.specs.Response.{ResponseIn, ResponseAt}
use Rattle.theory.specs.Course.{lead}
use Rattle.theory.proofs.Stage.{Stage, Keeps}
use Rattle.theory.proofs.FloorPreemptive as Displacing
use Rattle.theory.proofs.FloorNonPreemptive as Holding

-- what the course keeps, and that it keeps the job from finishing before lead + a + r
pub record Slow (s : TaskSet) (o : Order) (i a r : ℕ) : Type 1 where
  pub Inv : ℕ → List Work → Type 0
  pub keeps : Keeps s o i a Inv
  pub slow : (t m : ℕ) (st : State) → Stage s o i a t m st → Inv t st.jobs → (w : Work) → In w st.jobs → w.task ≡ i → w.release ≡ lead s o i a + a → w.finished ≡ true → (lead s o i a + a) + r ≤ t

module _ (s : TaskSet) (o : Order) (checked : Checked s) (law : Lawful s o) (i a r : ℕ) (hi : i < task_count s) where
  ran_all : (t m : ℕ) (st : State) → Stage s o i a t m st → (w : Work) → In w st.jobs → w.task ≡ i → w.release ≡ lead s o i a + a → w.finished ≡ true → ((task_at s i).cost ≤ w.ran) × ((lead s o i a + a) + w.ran ≤ t)
  ran_all t m st g w k e f h =
      let now = g.now in
      (subst (λ j. (task_at s j).cost ≤ w.ran) e (g.full w k h), omega (arith, g.facts.past w k))

  slow_in : (m : Mode) → s.mode ≡ m → ResponseIn m s o i a r → Slow s o i a r
  slow_in Preemptive e (F, sol, is) = record {
    Inv = Displacing.NotEarly s o checked law i a hi e F sol;
    keeps = Displacing.keeps_preemptive s o checked law i a hi e F sol;
    slow = λ t m st g inv w k p q h.
        let all = ran_all t m st g w k p q h in
        let late : F ≤ t = inv w k p q h in
        omega (arith, Displacing.no_lead s o checked law i a hi e F sol, all.0, all.1);
  }
  slow_in NonPreemptive e (G, sol, is) = record {
    Inv = λ t jobs. Holding.NotEarly s o checked law i a hi e G sol t jobs × Holding.BlockerBegun s o checked law i a hi e G sol t jobs;
    keeps = Holding.keeps_non_preemptive s o checked law i a hi e G sol;
    slow = λ t m st g inv w k p q h.
        let all = ran_all t m st g w k p q h in
        let late : lead s o i a + (G + w.ran) ≤ t = inv.0 w k p q (omega (arith, all.0, (task_ranges s checked i hi).cost_low)) in
        omega (arith, all.0, all.1);
  }

  pub slow_at : ResponseAt s o i a r → Slow s o i a r
  slow_at resp = slow_in s.mode refl resp
