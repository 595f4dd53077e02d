-- The criterion is needed: whatever lawful order admits the task set, the work due by t fits by t.
use Rattle.std.proofs.Common.{◌≡◌, ℕ, zero, suc, ◌+◌, ◌-◌, ◌*◌, ◌/◌, ◌<◌, ◌≤◌, true, false, cond, leb, ◌⊎◌, List, ◌∷◌, sym, refl, ap, subst, inl, inr, add-mul, arith}
use Rattle.std.proofs.lemmas.Bool.{cases_lt, cases_eq, cases_Bool, both_ways, cond-true, le-leb}
use Rattle.table.specs.Rules.{TaskSet, Checked, task_at, task_count}
use Rattle.table.specs.declared.kinds.Mode.{Mode}
use Rattle.table.specs.declared.kinds.Mode.TheVariants.{NonPreemptive, Preemptive}
use Rattle.table.proofs.Ranges.{task_ranges}
use Rattle.policy.specs.Order.{Order}
use Rattle.policy.specs.Laws.{Lawful}
use Rattle.theory.specs.BusyPeriod.{BusyPeriod}
use Rattle.theory.specs.Lists.{In}
use Rattle.theory.specs.Machine.{Work}
use Rattle.theory.specs.Guarantee.{AdmittedBy}
use Rattle.theory.specs.DemandCriterion.{demand, demand_blocking, FitsBy, CriterionNeeded}
use Rattle.theory.proofs.Sums.{sum_split}
use Rattle.theory.proofs.Orders.{leads, leads_trans}
use Rattle.theory.proofs.Works.{total, total_mono, cond_le}
use Rattle.theory.proofs.MachineFacts.{Spaced}
use Rattle.theory.proofs.CriterionFolds.{blocking_source, demand_folds}
use Rattle.theory.proofs.LastJob.{LastFrom, last_from}
use Rattle.theory.proofs.DueJobs.{left, new_work, due_jobs, due_spaced, due_cost, due_facts}
use Rattle.theory.proofs.Packing.{nothing_left, packed_preemptive}
use Rattle.theory.proofs.PackingNonPreemptive.{one_window, packed_non_preemptive}

module _ (s : TaskSet) (o : Order) (checked : Checked s) (law : Lawful s o) (L : ℕ) (busy : BusyPeriod s L) (admitted : AdmittedBy s o L) where
  module _ (t : ℕ) (short : t < L) (some : 1 ≤ demand s t) where
    abbrev ws : List Work
    ws = due_jobs s t

    known : (w : Work) → In w ws → w.task < task_count s
    known w m = (due_facts s checked t w m).known

    due : (w : Work) → In w ws → 1 ≤ w.release → w.release + (task_at s w.task).deadline ≤ suc t
    due w m low = (due_facts s checked t w m).due

    far : Spaced s ws
    far = due_spaced s t (task_count s)

    cost : left s 1 ws ≡ demand s t
    cost = due_cost s t

    -- a task p that is due later releases once at 0, and leads the last of the jobs
    module _ (mode : s.mode ≡ NonPreemptive) (p : ℕ) (hp : p < task_count s) (late : t < (task_at s p).deadline) (K : Work) (m : In K ws) (all : LastFrom o 1 ws K) (leads_it : leads o K.task K.release p 0 ≡ true) where
      abbrev more : List Work
      more = new_work p 0 ∷ ws

      known_more : (w : Work) → In w more → w.task < task_count s
      known_more w (inl e) = subst (λ z. z.task < task_count s) (sym e) hp
      known_more w (inr k) = known w k

      due_more : (w : Work) → In w more → 1 ≤ w.release → w.release + (task_at s w.task).deadline ≤ suc t
      due_more w (inl e) low = absurd (omega (arith, ap (λ z. z.release) e))
      due_more w (inr k) low = due w k low

      far_more : Spaced s more
      far_more = ((λ v k e. absurd (omega (arith, (due_facts s checked t v k).from, (due_facts s checked t v k).due, ap (λ z. (task_at s z).deadline) e))), far)

      last_more : LastFrom o 0 more K
      last_more v (inl e) low = subst (λ z. leads o K.task K.release z.task z.release ≡ true) (sym e) leads_it
      last_more v (inr k) low = all v k (due_facts s checked t v k).from

      cost_more : (task_at s p).cost + left s 1 ws ≤ left s 0 more
      unfolding total
      cost_more = omega (
        arith,
        cond-true (leb 0 0) (task_at s p).cost 0 (le-leb 0 0 (omega arith)),
        total_mono (λ w. cond (leb 1 w.release) (task_at s w.task).cost 0) (λ w. cond (leb 0 w.release) (task_at s w.task).cost 0) ws
            (λ w k. cond_le (leb 1 w.release) (leb 0 w.release) (task_at s w.task).cost (task_at s w.task).cost (λ h. inr (le-leb 0 w.release (omega arith), omega arith))),
      )

      first_ahead : demand s t + ((task_at s p).cost - 1) ≤ t
      first_ahead = omega (
        arith,
        cost,
        cost_more,
        (task_ranges s checked p hp).cost_low,
        one_window s o checked law L busy admitted more known_more far_more (suc t) short due_more mode 0 0 K (inr m) (due_facts s checked t K m).from (omega arith) last_more (inl refl)
            (λ y d lt held from. packed_non_preemptive s o checked law L busy admitted more known_more far_more (suc t) short due_more mode (suc t) y d (omega arith) lt held from),
      )

    -- the last of the jobs leads it: then it is behind all of them
    first_behind : s.mode ≡ NonPreemptive → (p : ℕ) → p < task_count s → (K : Work) → In K ws → 1 ≤ K.release → LastFrom o 1 ws K → leads o K.task K.release p 0 ≡ false → demand s t + ((task_at s p).cost - 1) ≤ t
    first_behind mode p hp K m low all not-it = omega (
      arith,
      cost,
      packed_non_preemptive s o checked law L busy admitted ws known far (suc t) short due mode (suc t) 1 ((task_at s p).cost - 1) (omega arith) (omega arith)
          (inr (p, 0, hp, omega arith, λ v k from. behind v k from (cases_Bool (leads o v.task v.release p 0)), omega (arith, (task_ranges s checked p hp).cost_low))) (K, m, low),
    )
      where
        behind : (v : Work) → In v ws → 1 ≤ v.release → (leads o v.task v.release p 0 ≡ true) ⊎ (leads o v.task v.release p 0 ≡ false) → leads o v.task v.release p 0 ≡ false
        behind v k from (inr e) = e
        behind v k from (inl e) = absurd (both_ways (leads o K.task K.release p 0) not-it (leads_trans s o law K.task K.release v.task v.release p 0 (known K m) (known v k) hp (all v k from) e))

    unblocked : (m : Mode) → s.mode ≡ m → (K : Work) → In K ws → 1 ≤ K.release → demand s t ≤ t
    unblocked Preemptive mode K m low = omega (arith, cost, packed_preemptive s o checked law L busy admitted ws known far (suc t) short due mode (suc t) 1 (omega arith) (omega arith) (omega arith))
    unblocked NonPreemptive mode K m low = omega (arith, cost, packed_non_preemptive s o checked law L busy admitted ws known far (suc t) short due mode (suc t) 1 0 (omega arith) (omega arith) (inl refl) (K, m, low))

    fits_inside : FitsBy s t
    fits_inside = go (last_from s o law 1 ws known) (blocking_source s.mode s t)
      where
        go : ((w : Work) → In w ws → w.release < 1) ⊎ ((K : Work) × In K ws × (1 ≤ K.release) × LastFrom o 1 ws K) → (demand_blocking s.mode s t ≡ 0) ⊎ ((p : ℕ) × (p < task_count s) × (s.mode ≡ NonPreemptive) × (t < (task_at s p).deadline) × (demand_blocking s.mode s t ≡ (task_at s p).cost - 1)) → FitsBy s t
        go (inl none) b = absurd (omega (arith, some, cost, nothing_left s o checked law L busy admitted ws known far (suc t) short due 1 none))
        go (inr (K, m, low, all)) (inl e) = omega (arith, e, unblocked s.mode refl K m low)
        go (inr (K, m, low, all)) (inr (p, hp, mode, late, e)) = two (cases_Bool (leads o K.task K.release p 0))
          where
            two : (leads o K.task K.release p 0 ≡ true) ⊎ (leads o K.task K.release p 0 ≡ false) → FitsBy s t
            two (inl q) = omega (arith, e, first_ahead mode p hp late K m all q)
            two (inr q) = omega (arith, e, first_behind mode p hp K m low all q)

  -- past the busy period, by what is left after it
  fits : (fuel t : ℕ) → t < fuel → 1 ≤ demand s t → FitsBy s t
  fits zero t lt some = absurd (omega arith)
  fits (suc fuel) t lt some = go (cases_lt t L) (cases_eq (demand s (t - L)) 0) (λ more ne. fits fuel (t - L) more ne)
    where
      go : (t < L) ⊎ (L ≤ t) → (demand s (t - L) ≡ 0) ⊎ (demand s (t - L) ≡ 0 → ⊥) → (t - L < fuel → 1 ≤ demand s (t - L) → FitsBy s (t - L)) → FitsBy s t
      go (inl short) b again = fits_inside t short some
      go (inr long) (inl none) again = omega (arith, demand_folds s checked L busy t long)
      go (inr long) (inr ne) again = omega (arith, demand_folds s checked L busy t long, again (omega (arith, busy.from)) (omega (arith, ne)))

  -- something is due at a deadline point
  due_there : (i t : ℕ) → i < task_count s → (task_at s i).deadline ≤ t → 1 ≤ demand s t
  due_there i t here le = omega (
    arith,
    sum_split (task_count s) i (λ j. cond (leb (task_at s j).deadline t) ((1 + (t - (task_at s j).deadline) / (task_at s j).period) * (task_at s j).cost) 0) here,
    cond-true (leb (task_at s i).deadline t) ((1 + (t - (task_at s i).deadline) / (task_at s i).period) * (task_at s i).cost) 0 (le-leb (task_at s i).deadline t le),
    add-mul 1 ((t - (task_at s i).deadline) / (task_at s i).period) (task_at s i).cost,
    (task_ranges s checked i here).cost_low,
  )

pub criterion_needed : (s : TaskSet) (L : ℕ) → Checked s → BusyPeriod s L → CriterionNeeded s L
criterion_needed s L checked busy o law admitted i k here =
    fits s o checked law L busy admitted (suc ((task_at s i).deadline + k * (task_at s i).period)) ((task_at s i).deadline + k * (task_at s i).period) (omega arith) (due_there s o checked law L busy admitted i ((task_at s i).deadline + k * (task_at s i).period) here (omega arith))
