-- The job that a worst course is about is among its jobs from its release on.
use Rattle.std.proofs.Common.{◌≡◌, ℕ, suc, ◌+◌, ◌<◌, ◌≤◌, Bool, true, false, cond, ◌&&◌, eqb, List, refl, arith}
use Rattle.std.proofs.lemmas.Bool.{and_parts, and_from, eqb-true, eq-eqb}
use Rattle.table.specs.Rules.{TaskSet, Checked, task_at, task_count}
use Rattle.table.specs.declared.kinds.Mode.{Mode}
use Rattle.table.specs.declared.kinds.Mode.TheVariants.{NonPreemptive, Preemptive}
use Rattle.policy.specs.Order.{Order}
use Rattle.policy.specs.Laws.{Lawful}
use Rattle.theory.specs.Sums.{count_below}
use Rattle.theory.specs.Lists.{In}
use Rattle.theory.specs.Machine.{Work, State}
use Rattle.theory.specs.Response.{ResponseIn}
use Rattle.theory.specs.Course.{lead, course_blocking, releases_at}
use Rattle.theory.proofs.Works.{number}
use Rattle.theory.proofs.Keys.{number_in}
use Rattle.theory.proofs.Spread.{count_one}
use Rattle.theory.proofs.Told.{told_last}
use Rattle.theory.proofs.Stage.{Stage, stage_told}

pub lead_small : (s : TaskSet) (o : Order) (i a : ℕ) → lead s o i a ≤ 1
lead_small s o i a = go (eqb (course_blocking s o i a) 0)
  where
    go : (b : Bool) → cond b 0 1 ≤ 1
    go true = omega arith
    go false = omega arith

-- a response is at least C
pub response_low : (m : Mode) (s : TaskSet) (o : Order) (i a r : ℕ) → ResponseIn m s o i a r → (task_at s i).cost ≤ r
response_low Preemptive s o i a r (F, sol, e) = omega arith
response_low NonPreemptive s o i a r (G, sol, e) = omega arith

module _ (s : TaskSet) (o : Order) (i a : ℕ) (hi : i < task_count s) where
  -- the job of task i released at lead + a
  abbrev pub TheJob : List Work → Type 0
  TheJob jobs = (w : Work) × In w jobs × (w.task ≡ i) × (w.release ≡ lead s o i a + a)

  found : (jobs : List Work) → 1 ≤ number (λ k r. eqb k i && eqb r (lead s o i a + a)) jobs → TheJob jobs
  found jobs h =
      let r = number_in (λ k r. eqb k i && eqb r (lead s o i a + a)) jobs h in
      let p = and_parts (eqb r.0.task i) (eqb r.0.release (lead s o i a + a)) r.2 in
      (r.0, r.1, eqb-true r.0.task i p.0, eqb-true r.0.release (lead s o i a + a) p.1)

  told : (t : ℕ) → lead s o i a + a < t → 1 ≤ count_below t (λ u. releases_at s o i a i u && eqb u (lead s o i a + a))
  told t lt = count_one _ t (lead s o i a + a) lt (and_from _ _ (told_last s o i a) (eq-eqb (lead s o i a + a) (lead s o i a + a) refl))

  pub present : (t m : ℕ) (st : State) → Stage s o i a t m st → lead s o i a + a < t → TheJob st.jobs
  present t m st g lt = found st.jobs (omega (arith, g.counted i hi (λ r. eqb r (lead s o i a + a)), told t lt))

  pub present_now : (checked : Checked s) (law : Lawful s o) (t : ℕ) (st : State) → Stage s o i a t (task_count s) st → lead s o i a + a ≤ t → TheJob st.jobs
  present_now checked law t st g le = found st.jobs (omega (arith, stage_told s o checked law i a t st g i hi (λ r. eqb r (lead s o i a + a)), told (suc t) (omega arith)))
