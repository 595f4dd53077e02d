-- The same without preemption, with what holds the processor when a window opens.
use Rattle.std.proofs.Common.{◌≡◌, ℕ, zero, suc, ◌+◌, ◌-◌, ◌<◌, ◌≤◌, true, false, cond, not, ◌&&◌, ◌||◌, eqb, leb, ◌⊎◌, List, refl, ◌∙◌, inl, inr, arith}
use Rattle.std.proofs.lemmas.Bool.{cases_lt, cases_Bool, cond-true, cond-false, and_from, and_right, leb-true, le-leb, ne_eqb, not_from_false, or_cases, or_left, or_right}
use Rattle.table.specs.Rules.{TaskSet, Checked, task_at, task_count}
use Rattle.table.specs.declared.kinds.Mode.TheVariants.{NonPreemptive}
use Rattle.table.proofs.Ranges.{task_ranges}
use Rattle.policy.specs.Order.{Order}
use Rattle.policy.specs.Laws.{Lawful}
use Rattle.theory.specs.LeastSolution.{LeastSolution}
use Rattle.theory.specs.BusyPeriod.{BusyPeriod}
use Rattle.theory.specs.Response.{until_start}
use Rattle.theory.specs.Lists.{In}
use Rattle.theory.specs.Machine.{Work, same_work}
use Rattle.theory.specs.Guarantee.{AdmittedBy}
use Rattle.theory.proofs.Orders.{leads}
use Rattle.theory.proofs.Works.{Test, tests, asked, same_from}
use Rattle.theory.proofs.ByTask.{total_one}
use Rattle.theory.proofs.MachineFacts.{Spaced, apart_from_spaced}
use Rattle.theory.proofs.Window.{Source, key, ahead_within}
use Rattle.theory.proofs.Asked.{asked_before, allowance_fits}
use Rattle.theory.proofs.LastJob.{LastFrom, last_from, not_led}
use Rattle.theory.proofs.DueJobs.{left}
use Rattle.theory.proofs.AdmittedResponse.{admitted_start}
use Rattle.theory.proofs.Packing.{nothing_left, before_due, splits}

module _ (s : TaskSet) (o : Order) (checked : Checked s) (law : Lawful s o) (L : ℕ) (busy : BusyPeriod s L) (admitted : AdmittedBy s o L)
    (ws : List Work) (known : (w : Work) → In w ws → w.task < task_count s) (far : Spaced s ws)
    (e : ℕ) (short : e ≤ L) (due : (w : Work) → In w ws → 1 ≤ w.release → w.release + (task_at s w.task).deadline ≤ e) where
  -- an allowance c at x is 0, or C - 1 of a task with a job before x that is behind all from x on
  abbrev pub HeldBack : ℕ → ℕ → Type 0
  HeldBack x c = (c ≡ 0) ⊎ ((p : ℕ) × (r : ℕ) × (p < task_count s) × (r < x) × ((v : Work) → In v ws → x ≤ v.release → leads o v.task v.release p r ≡ false) × ((task_at s p).cost ≡ suc c))

  abbrev pub SomeFrom : ℕ → Type 0
  SomeFrom x = (w : Work) × In w ws × (x ≤ w.release)

  abbrev pub Packed : ℕ → ℕ → Type 0
  Packed x c = (x + c) + left s x ws ≤ e

  -- one window, and then what is left
  module _ (mode : s.mode ≡ NonPreemptive) (x c : ℕ) (K : Work) (m : In K ws) (real : 1 ≤ K.release) (from : x ≤ K.release) (all : LastFrom o x ws K) (source : Source s o K.task K.release x c)
      (again : (y d : ℕ) → x < y → HeldBack y d → SomeFrom y → Packed y d) where
    own_cost : asked s (key K.task K.release) ws ≡ (task_at s K.task).cost
    own_cost = total_one (λ v. cond (tests (key K.task K.release) v) (task_at s v.task).cost 0) ws (apart_from_spaced s ws checked known far) K m (λ v k h. cond-false (same_work v K) (task_at s v.task).cost 0 h)
        ∙ cond-true (tests (key K.task K.release) K) (task_at s K.task).cost 0 (same_from K K refl refl)

    module _ (G : ℕ) (sol : LeastSolution 0 (until_start s o K.task (K.release - x)) G) (early : G + (task_at s K.task).cost ≤ (K.release - x) + (task_at s K.task).deadline) where
      -- what is done before K begins
      begun_by : c + asked s (ahead_within o K.task K.release x G) ws ≤ G
      begun_by = omega (
        arith,
        sol.solves,
        asked_before s o checked law K.task K.release x (known K m) ws known far (K.release - x) (omega arith) K m refl refl G,
        allowance_fits s o checked law K.task K.release x (known K m) ws known far (K.release - x) (omega arith) c from source,
      )

      passes : (w : Work) → In w ws → x ≤ w.release → w.release ≤ x + G → tests (key K.task K.release) w ≡ false → tests (ahead_within o K.task K.release x G) w ≡ true
      passes w k lw up other = and_from (leads o K.task K.release w.task w.release && not (tests (key K.task K.release) w)) (leb x w.release && leb w.release (x + G))
          (and_from (leads o K.task K.release w.task w.release) (not (tests (key K.task K.release) w)) (all w k lw) (not_from_false (tests (key K.task K.release) w) other))
          (and_from (leb x w.release) (leb w.release (x + G)) (le-leb x w.release lw) (le-leb w.release (x + G) up))

      -- with K among the first, and K among the rest
      with_own : left s x ws ≤ (asked s (ahead_within o K.task K.release x G) ws + (task_at s K.task).cost) + left s (suc (x + G)) ws
      with_own = omega (
        arith,
        own_cost,
        splits s o checked law L busy admitted ws known far e short due (λ j r. leb x r) (ahead_within o K.task K.release x G) rest (λ w k lw. go w k (leb-true x w.release lw) (cases_Bool (tests (key K.task K.release) w)) (cases_lt (x + G) w.release)),
        splits s o checked law L busy admitted ws known far e short due rest (key K.task K.release) (λ j r. leb (suc (x + G)) r) (λ w k h. or_cases (tests (key K.task K.release) w) (leb (suc (x + G)) w.release) h),
      )
        where
          rest : Test
          rest j r = key K.task K.release j r || leb (suc (x + G)) r

          go : (w : Work) → In w ws → x ≤ w.release → (tests (key K.task K.release) w ≡ true) ⊎ (tests (key K.task K.release) w ≡ false) → (x + G < w.release) ⊎ (w.release ≤ x + G) → (tests (ahead_within o K.task K.release x G) w ≡ true) ⊎ (tests rest w ≡ true)
          go w k lw (inl same) b = inr (or_left (tests (key K.task K.release) w) (leb (suc (x + G)) w.release) same)
          go w k lw (inr other) (inl lt) = inr (or_right (tests (key K.task K.release) w) (leb (suc (x + G)) w.release) (le-leb (suc (x + G)) w.release lt))
          go w k lw (inr other) (inr le) = inl (passes w k lw le other)

      without_own : x + G < K.release → left s x ws ≤ asked s (ahead_within o K.task K.release x G) ws + left s (suc (x + G)) ws
      without_own late = splits s o checked law L busy admitted ws known far e short due (λ j r. leb x r) (ahead_within o K.task K.release x G) (λ j r. leb (suc (x + G)) r) (λ w k lw. go w k (leb-true x w.release lw) (cases_lt (x + G) w.release))
        where
          go : (w : Work) → In w ws → x ≤ w.release → (x + G < w.release) ⊎ (w.release ≤ x + G) → (tests (ahead_within o K.task K.release x G) w ≡ true) ⊎ (leb (suc (x + G)) w.release ≡ true)
          go w k lw (inl lt) = inr (le-leb (suc (x + G)) w.release lt)
          go w k lw (inr le) = inl (passes w k lw le (and_right (eqb w.task K.task) (eqb w.release K.release) (ne_eqb w.release K.release (λ q. omega arith))))

      -- K, once begun, is behind all that are released after
      behind : K.release ≤ x + G → (v : Work) → In v ws → suc (x + G) ≤ v.release → leads o v.task v.release K.task K.release ≡ false
      behind le v k lw = not_led s o law K.task K.release v.task v.release (known K m) (known v k) (λ q d. omega arith) (all v k (omega arith))

      closes : Packed x c
      closes = go (last_from s o law (suc (x + G)) ws known) (cases_lt (x + G) K.release)
        where
          cost : 1 ≤ (task_at s K.task).cost
          cost = (task_ranges s checked K.task (known K m)).cost_low

          go : ((w : Work) → In w ws → w.release < suc (x + G)) ⊎ ((N : Work) × In N ws × (suc (x + G) ≤ N.release) × LastFrom o (suc (x + G)) ws N) → (x + G < K.release) ⊎ (K.release ≤ x + G) → Packed x c
          go (inl none) b = omega (arith, early, due K m real, begun_by, with_own, nothing_left s o checked law L busy admitted ws known far e short due (suc (x + G)) none)
          go (inr (N, k, later, led)) (inl late) = omega (arith, begun_by, without_own late, again (suc (x + G)) 0 (omega arith) (inl refl) (N, k, later))
          go (inr (N, k, later, led)) (inr le) = omega (
            arith,
            cost,
            begun_by,
            with_own,
            again (suc (x + G)) ((task_at s K.task).cost - 1) (omega arith) (inr (K.task, K.release, known K m, omega arith, behind le, omega (arith, cost))) (N, k, later),
          )

    pub one_window : Packed x c
    one_window =
        let y = admitted_start s o checked law L busy admitted K.task (K.release - x) (known K m) (omega (arith, before_due s o checked law L busy admitted ws known far e short due K m real)) mode in
        closes y.0 y.1 y.2

  pub packed_non_preemptive : s.mode ≡ NonPreemptive → (fuel x c : ℕ) → e ≤ x + fuel → 1 ≤ x → HeldBack x c → SomeFrom x → Packed x c
  packed_non_preemptive mode zero x c room low held (w, m, le) = absurd (omega (arith, before_due s o checked law L busy admitted ws known far e short due w m (omega arith)))
  packed_non_preemptive mode (suc fuel) x c room low held (w, m, le) = go (last_from s o law x ws known) (λ y d up from h some. packed_non_preemptive mode fuel y d up from h some)
    where
      go : ((v : Work) → In v ws → v.release < x) ⊎ ((K : Work) × In K ws × (x ≤ K.release) × LastFrom o x ws K) → ((y d : ℕ) → e ≤ y + fuel → 1 ≤ y → HeldBack y d → SomeFrom y → Packed y d) → Packed x c
      go (inl none) again = absurd (omega (arith, none w m))
      go (inr (K, k, from, all)) again = one_window mode x c K k (omega arith) from all (source held) (λ y d lt h some. again y d (omega arith) (omega arith) h some)
        where
          source : HeldBack x c → Source s o K.task K.release x c
          source (inl z) = inl z
          source (inr (p, r, hp, lt, behind, cost)) = inr (p, r, mode, hp, lt, behind K k from, cost)
