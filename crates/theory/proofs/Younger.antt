-- From the window of an unfinished job to its age: it is younger than the response at its offset in the window.
use Rattle.std.proofs.Common.{◌≡◌, ℕ, suc, ◌+◌, ◌-◌, ◌*◌, ◌/◌, ◌<◌, ◌≤◌, true, false, cond, ◌⊎◌, refl, ap, ◌∙◌, inl, inr, zero-mul, arith}
use Rattle.std.proofs.lemmas.Bool.{cases_lt, both_ways, cond-true, cond-false}
use Rattle.table.specs.Rules.{TaskSet, Checked, task_at, task_count}
use Rattle.table.specs.declared.kinds.Mode.TheVariants.{NonPreemptive, Preemptive}
use Rattle.policy.specs.Order.{Order}
use Rattle.policy.specs.Laws.{Lawful}
use Rattle.theory.specs.LeastSolution.{LeastSolution}
use Rattle.theory.specs.BusyPeriod.{ceil_div, BusyPeriod}
use Rattle.theory.specs.Response.{work_ahead, blocking, until_finish, until_start}
use Rattle.theory.specs.Lists.{In}
use Rattle.theory.specs.Machine.{Work, State, same_work}
use Rattle.theory.proofs.Sums.{sum_split}
use Rattle.theory.proofs.Solutions.{beyond}
use Rattle.theory.proofs.Orders.{leads_self}
use Rattle.theory.proofs.Works.{Test, tests, asked, served, number, same_one, same_from}
use Rattle.theory.proofs.ByTask.{of_one, total_one}
use Rattle.theory.proofs.MachineFacts.{Facts, facts_apart}
use Rattle.theory.proofs.Window.{Window, Source, NotFinished, key, released_within, ahead_within}
use Rattle.theory.proofs.Counting.{count_any, count_none}
use Rattle.theory.proofs.Asked.{by_two, asked_within, asked_before, allowance_fits}
use Rattle.theory.proofs.Existence.{ceil_low}

module _ (s : TaskSet) (o : Order) (checked : Checked s) (law : Lawful s o) (L : ℕ) (busy : BusyPeriod s L) (st : State) (f : Facts s st)
    (w : Work) (inside : In w st.jobs) (left : w.finished ≡ false) (win : Window s o w.task w.release st) where
  abbrev i : ℕ
  i = w.task

  abbrev A : ℕ
  A = w.release

  abbrev opened : ℕ
  opened = win.opened

  -- the offset of the job in its window
  abbrev pub offset : ℕ
  offset = w.release - win.opened

  here : i < task_count s
  here = f.known w inside

  since : opened ≤ A
  since = go (cases_lt A opened)
    where
      go : (A < opened) ⊎ (opened ≤ A) → opened ≤ A
      go (inl lt) = absurd (both_ways w.finished left (win.cleared w inside (leads_self s o law i A) lt))
      go (inr le) = le

  place : A ≡ offset + opened
  place = omega (arith, since)

  -- no window is as long as the busy period
  pub window_short : st.time < opened + L
  window_short = go (cases_lt st.time (opened + L))
    where
      p : Test
      p = released_within o i A opened L

      count : (j : ℕ) → j < task_count s → number (of_one j p) st.jobs ≤ ceil_div L (task_at s j).period
      count j lt = count_any s o checked law i A opened here st.jobs f.spaced j L lt

      fits : Source s o i A opened win.allowance → win.allowance + asked s p st.jobs ≤ L
      fits (inl e) = omega (
        arith,
        busy.solves,
        by_two s i p st.jobs (ceil_div L (task_at s i).period) (λ j. ceil_div L (task_at s j).period) f.known here (count i here) (λ j lt ne. count j lt),
        sum_split (task_count s) i (λ j. ceil_div L (task_at s j).period * (task_at s j).cost) here,
      )
      fits (inr (b, r, q, hb, lt, behind, cost)) = omega (
        arith,
        busy.solves,
        cost,
        by_two s b p st.jobs 0 (λ j. ceil_div L (task_at s j).period) f.known hb (omega (arith, count_none s o checked law i A opened here st.jobs f.spaced b r L hb lt behind)) (λ j hj ne. count j hj),
        zero-mul (task_at s b).cost,
        sum_split (task_count s) b (λ j. ceil_div L (task_at s j).period * (task_at s j).cost) hb,
        ceil_low s o checked law b 0 hb L b busy.from hb,
      )

      go : (st.time < opened + L) ⊎ (opened + L ≤ st.time) → st.time < opened + L
      go (inl lt) = lt
      go (inr ge) = absurd (omega (arith, win.owed L busy.from ge, fits win.source))

  pub offset_inside : offset < L
  offset_inside = omega (arith, window_short, f.past w inside, since, busy.from)

  demand : (t : ℕ) → asked s (released_within o i A opened t) st.jobs ≤ until_finish s o i offset t
  demand = asked_within s o checked law i A opened here st.jobs f.known f.spaced offset place

  demand_before : (t : ℕ) → asked s (ahead_within o i A opened t) st.jobs ≤ offset / (task_at s i).period * (task_at s i).cost + work_ahead s o i offset (suc t)
  demand_before = asked_before s o checked law i A opened here st.jobs f.known f.spaced offset place w inside refl refl

  -- the allowance is no more than the blocking
  allowed : win.allowance ≤ blocking s o i offset
  allowed = allowance_fits s o checked law i A opened here st.jobs f.known f.spaced offset place win.allowance since win.source

  -- with preemption
  pub younger_preemptive : s.mode ≡ Preemptive → (F : ℕ) → LeastSolution 1 (until_finish s o i offset) F → st.time < A + (F - offset)
  younger_preemptive mode F sol = omega (arith, place, since, f.past w inside, beyond 1 (until_finish s o i offset) F (st.time - opened) sol (λ u low le. omega (arith, none win.source, win.owed u low (omega (arith, f.past w inside, since)), demand u)))
    where
      none : Source s o i A opened win.allowance → win.allowance ≡ 0
      none (inl e) = e
      none (inr (b, r, q, hb, lt, behind, cost)) = absurd (let z : ◌≡◌ {A = ℕ} 0 1 = cc in omega arith)

  -- without preemption
  pub younger_non_preemptive : s.mode ≡ NonPreemptive → (G : ℕ) → LeastSolution 0 (until_start s o i offset) G → st.time < A + (G + (task_at s i).cost - offset)
  younger_non_preemptive mode G sol = go (cases_lt (opened + w.ran) st.time)
    where
      ran : served (key i A) st.jobs ≡ w.ran
      ran = total_one (λ v. cond (tests (key i A) v) v.ran 0) st.jobs (facts_apart s st checked f) w inside (λ v m h. cond-false (same_work v w) v.ran 0 h) ∙ cond-true (tests (key i A) w) w.ran 0 (same_self w)
        where
          same_self : (v : Work) → same_work v v ≡ true
          same_self v = same_from v v refl refl

      open_still : NotFinished i A st.jobs
      open_still v m h = ap (λ z. z.finished) (same_one st.jobs (facts_apart s st checked f) v w m inside h) ∙ left

      go : (opened + w.ran < st.time) ⊎ (st.time ≤ opened + w.ran) → st.time < A + (G + (task_at s i).cost - offset)
      go (inr le) = omega (arith, place, f.short w inside left)
      go (inl lt) = omega (arith, place, f.short w inside left, beyond 0 (until_start s o i offset) G (st.time - (opened + w.ran) - 1) sol (λ u low le. omega (arith, win.owed_before mode open_still u (omega (arith, ran)), demand_before u, allowed)))
