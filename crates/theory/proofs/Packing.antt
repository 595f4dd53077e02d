-- In an admitted task set the jobs of a spaced list that are due by e fit before e, whatever lawful order: from the job that all others lead, window by window.
use Rattle.std.proofs.Common.{◌≡◌, ℕ, zero, suc, ◌+◌, ◌-◌, ◌<◌, ◌≤◌, Bool, true, false, cond, ◌&&◌, ltb, leb, ◌⊎◌, List, refl, inl, inr, arith}
use Rattle.std.proofs.lemmas.Bool.{cases_lt, cond-true, cond-false, and_from, leb-true, le-leb, lt-leb, lt-ltb}
use Rattle.table.specs.Rules.{TaskSet, Checked, task_at, task_count}
use Rattle.table.specs.declared.kinds.Mode.TheVariants.{Preemptive}
use Rattle.table.proofs.Ranges.{task_ranges}
use Rattle.policy.specs.Order.{Order}
use Rattle.policy.specs.Laws.{Lawful}
use Rattle.theory.specs.LeastSolution.{LeastSolution}
use Rattle.theory.specs.BusyPeriod.{BusyPeriod}
use Rattle.theory.specs.Response.{until_finish}
use Rattle.theory.specs.Lists.{In}
use Rattle.theory.specs.Machine.{Work}
use Rattle.theory.specs.Guarantee.{AdmittedBy}
use Rattle.theory.proofs.Orders.{leads}
use Rattle.theory.proofs.Works.{Test, tests, asked, total_mono, total_add, total_zero}
use Rattle.theory.proofs.MachineFacts.{Spaced}
use Rattle.theory.proofs.Window.{released_within}
use Rattle.theory.proofs.Asked.{asked_within}
use Rattle.theory.proofs.LastJob.{LastFrom, last_from}
use Rattle.theory.proofs.DueJobs.{left}
use Rattle.theory.proofs.AdmittedResponse.{admitted_finish}

-- what passes one test passes one of two others
cond_either : (a b c : Bool) (n : ℕ) → (a ≡ true → (b ≡ true) ⊎ (c ≡ true)) → cond a n 0 ≤ cond b n 0 + cond c n 0
cond_either false b c n h = omega arith
cond_either true b c n h = go (h refl)
  where
    go : (b ≡ true) ⊎ (c ≡ true) → n ≤ cond b n 0 + cond c n 0
    go (inl e) = omega (arith, cond-true b n 0 e)
    go (inr e) = omega (arith, cond-true c n 0 e)

module _ (s : TaskSet) (o : Order) (checked : Checked s) (law : Lawful s o) (L : ℕ) (busy : BusyPeriod s L) (admitted : AdmittedBy s o L)
    (ws : List Work) (known : (w : Work) → In w ws → w.task < task_count s) (far : Spaced s ws)
    (e : ℕ) (short : e ≤ L) (due : (w : Work) → In w ws → 1 ≤ w.release → w.release + (task_at s w.task).deadline ≤ e) where
  pub nothing_left : (x : ℕ) → ((w : Work) → In w ws → w.release < x) → left s x ws ≡ 0
  nothing_left x none = total_zero (λ w. cond (leb x w.release) (task_at s w.task).cost 0) ws (λ w m. cond-false (leb x w.release) (task_at s w.task).cost 0 (lt-leb x w.release (none w m)))

  pub before_due : (w : Work) → In w ws → 1 ≤ w.release → w.release < e
  before_due w m low = omega (arith, due w m low, (task_ranges s checked w.task (known w m)).deadline_low)

  -- jobs that pass one test pass one of two others
  pub splits : (p q u : Test) → ((w : Work) → In w ws → tests p w ≡ true → (tests q w ≡ true) ⊎ (tests u w ≡ true)) → asked s p ws ≤ asked s q ws + asked s u ws
  splits p q u h = omega (
    arith,
    total_mono (λ w. cond (tests p w) (task_at s w.task).cost 0) (λ w. cond (tests q w) (task_at s w.task).cost 0 + cond (tests u w) (task_at s w.task).cost 0) ws (λ w m. cond_either (tests p w) (tests q w) (tests u w) (task_at s w.task).cost (h w m)),
    total_add (λ w. cond (tests q w) (task_at s w.task).cost 0) (λ w. cond (tests u w) (task_at s w.task).cost 0) ws,
  )

  -- with preemption
  pub packed_preemptive : s.mode ≡ Preemptive → (fuel x : ℕ) → e ≤ x + fuel → 1 ≤ x → x ≤ e → x + left s x ws ≤ e
  packed_preemptive mode zero x room low le = go (last_from s o law x ws known)
    where
      go : ((w : Work) → In w ws → w.release < x) ⊎ ((K : Work) × In K ws × (x ≤ K.release) × LastFrom o x ws K) → x + left s x ws ≤ e
      go (inl none) = omega (arith, nothing_left x none)
      go (inr (K, m, from, all)) = absurd (omega (arith, before_due K m (omega arith)))
  packed_preemptive mode (suc fuel) x room low le = go (last_from s o law x ws known) (λ y up from upto. packed_preemptive mode fuel y up from upto)
    where
      go : ((w : Work) → In w ws → w.release < x) ⊎ ((K : Work) × In K ws × (x ≤ K.release) × LastFrom o x ws K) → ((y : ℕ) → e ≤ y + fuel → 1 ≤ y → y ≤ e → y + left s y ws ≤ e) → x + left s x ws ≤ e
      go (inl none) again = omega (arith, nothing_left x none)
      go (inr (K, m, from, all)) again = two (admitted_finish s o checked law L busy admitted K.task (K.release - x) (known K m) (omega (arith, before_due K m (omega arith))) mode)
        where
          two : (F : ℕ) × LeastSolution 1 (until_finish s o K.task (K.release - x)) F × (F ≤ (K.release - x) + (task_at s K.task).deadline) → x + left s x ws ≤ e
          two (F, sol, early) = omega (
            arith,
            sol.from,
            sol.solves,
            asked_within s o checked law K.task K.release x (known K m) ws known far (K.release - x) (omega arith) F,
            splits (λ j r. leb x r) (released_within o K.task K.release x F) (λ j r. leb (x + F) r) (λ w k lw. three w k (leb-true x w.release lw) (cases_lt w.release (x + F))),
            again (x + F) (omega (arith, sol.from)) (omega arith) (omega (arith, early, due K m (omega arith))),
          )
            where
              three : (w : Work) → In w ws → x ≤ w.release → (w.release < x + F) ⊎ (x + F ≤ w.release) → (tests (released_within o K.task K.release x F) w ≡ true) ⊎ (leb (x + F) w.release ≡ true)
              three w k lw (inl lt) = inl (and_from (leads o K.task K.release w.task w.release) (leb x w.release && ltb w.release (x + F)) (all w k lw) (and_from (leb x w.release) (ltb w.release (x + F)) (le-leb x w.release lw) (lt-ltb w.release (x + F) lt)))
              three w k lw (inr ge) = inr (le-leb (x + F) w.release ge)
