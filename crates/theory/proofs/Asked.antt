-- What the jobs of a spaced list ask for in a window of job K (task i, released `offset` ticks after the window opened) is no more than the analysis counts.
use Rattle.std.proofs.Common.{◌≡◌, ℕ, suc, ◌+◌, ◌-◌, ◌*◌, ◌/◌, ◌<◌, ◌≤◌, true, false, cond, eqb, ◌⊎◌, List, pos, negsuc, sym, ◌∙◌, subst, inl, inr, mul-le-mul_right, arith}
use Rattle.std.proofs.lemmas.Bool.{cases_eq, both_ways, cond-true, cond-false, eq-eqb, ne_eqb}
use Rattle.table.specs.Rules.{TaskSet, Checked, task_at, task_count}
use Rattle.policy.specs.Order.{Order, job}
use Rattle.policy.specs.Laws.{Lawful}
use Rattle.theory.specs.Sums.{sum_below}
use Rattle.theory.specs.Response.{jobs_ahead, work_ahead, blocking, until_finish}
use Rattle.theory.specs.Lists.{In}
use Rattle.theory.specs.Machine.{Work}
use Rattle.theory.proofs.Sums.{sum_mono, sum_split, max_at}
use Rattle.theory.proofs.Orders.{leads, leads_own, leads_other, leads_never, ahead_back, behind_back}
use Rattle.theory.proofs.Works.{Test, asked, number}
use Rattle.theory.proofs.ByTask.{of_one, asked_by_task}
use Rattle.theory.proofs.MachineFacts.{Spaced}
use Rattle.theory.proofs.Window.{Source, released_within, ahead_within}
use Rattle.theory.proofs.Counting.{count_other, count_own, count_own_ahead, count_ahead}

-- the work of jobs counted by task, from bounds on the counts: those of task i, and those of each other one
pub by_two : (s : TaskSet) (i : ℕ) (p : Test) (ws : List Work) (own : ℕ) (other : ℕ → ℕ) → ((w : Work) → In w ws → w.task < task_count s) → i < task_count s → number (of_one i p) ws ≤ own
    → ((j : ℕ) → j < task_count s → (j ≡ i → ⊥) → number (of_one j p) ws ≤ other j)
    → asked s p ws ≤ own * (task_at s i).cost + sum_below (task_count s) (λ j. cond (eqb j i) 0 (other j * (task_at s j).cost))
by_two s i p ws own other known here mine theirs =
    omega (
      arith,
      asked_by_task s p ws known,
      sum_split (task_count s) i (λ j. number (of_one j p) ws * (task_at s j).cost) here,
      mul-le-mul_right (task_at s i).cost mine,
      sum_mono (task_count s) (λ j. cond (eqb j i) 0 (number (of_one j p) ws * (task_at s j).cost)) (λ j. cond (eqb j i) 0 (other j * (task_at s j).cost)) (λ j lt. go j lt (cases_eq j i)),
    )
  where
    go : (j : ℕ) → j < task_count s → (j ≡ i) ⊎ (j ≡ i → ⊥) → cond (eqb j i) 0 (number (of_one j p) ws * (task_at s j).cost) ≤ cond (eqb j i) 0 (other j * (task_at s j).cost)
    go j lt (inl e) = omega (arith, cond-true (eqb j i) 0 (number (of_one j p) ws * (task_at s j).cost) (eq-eqb j i e), cond-true (eqb j i) 0 (other j * (task_at s j).cost) (eq-eqb j i e))
    go j lt (inr ne) = omega (arith, cond-false (eqb j i) 0 (number (of_one j p) ws * (task_at s j).cost) (ne_eqb j i ne), cond-false (eqb j i) 0 (other j * (task_at s j).cost) (ne_eqb j i ne), mul-le-mul_right (task_at s j).cost (theirs j lt ne))

module _ (s : TaskSet) (o : Order) (checked : Checked s) (law : Lawful s o) (i A opened : ℕ) (here : i < task_count s) (ws : List Work) (known : (w : Work) → In w ws → w.task < task_count s) (far : Spaced s ws) (offset : ℕ) (place : A ≡ offset + opened) where
  pub asked_within : (t : ℕ) → asked s (released_within o i A opened t) ws ≤ until_finish s o i offset t
  asked_within t = by_two s i (released_within o i A opened t) ws (1 + offset / (task_at s i).period) (λ j. jobs_ahead s o i offset j t) known here
      (count_own s o checked law i A opened here ws far offset t place)
      (λ j lt ne. count_other s o checked law i A opened here ws far offset j t place lt ne)

  pub asked_before : (w : Work) → In w ws → w.task ≡ i → w.release ≡ A → (t : ℕ) → asked s (ahead_within o i A opened t) ws ≤ offset / (task_at s i).period * (task_at s i).cost + work_ahead s o i offset (suc t)
  asked_before w inside task rel t = by_two s i (ahead_within o i A opened t) ws (offset / (task_at s i).period) (λ j. jobs_ahead s o i offset j (suc t)) known here
      (count_own_ahead s o checked law i A opened here ws far offset t place w inside task rel)
      (λ j lt ne. omega (arith, count_ahead s o checked law i A opened here ws far j t, count_other s o checked law i A opened here ws far offset j (suc t) place lt ne))

  -- an allowance for a job behind K is no more than the blocking
  pub allowance_fits : (allowance : ℕ) → opened ≤ A → Source s o i A opened allowance → allowance ≤ blocking s o i offset
  allowance_fits allowance since (inl e) = omega arith
  allowance_fits allowance since (inr (b, r, q, hb, lt, behind, cost)) = omega (arith, cost, max_at (task_count s) b value hb, cond-false (eqb b i) 0 (cond (o.ahead (job i (pos offset)) (job b (negsuc 0))) ((task_at s b).cost - 1) 0) (ne_eqb b i other), cond-true (o.ahead (job i (pos offset)) (job b (negsuc 0))) ((task_at s b).cost - 1) 0 ahead)
    where
      value : ℕ → ℕ
      value j = cond (eqb j i) 0 (cond (o.ahead (job i (pos offset)) (job j (negsuc 0))) ((task_at s j).cost - 1) 0)

      other : b ≡ i → ⊥
      other e = both_ways (leads o i A b r) behind (subst (λ z. leads o i A z r ≡ true) (sym e) (leads_own s o law i A r here (omega arith)))

      d : ℕ
      d = opened - 1

      last : leads o i A b d ≡ false
      last = leads_never s o law i A b r d here hb (omega arith) behind

      ahead : o.ahead (job i (pos offset)) (job b (negsuc 0)) ≡ true
      ahead = behind_back s o law i b offset here hb other (sym (ahead_back s o law i b offset d here hb other) ∙ sym (leads_other s o law i (offset + suc d) b d other) ∙ subst (λ z. leads o i z b d ≡ false) (omega (arith, place)) last)
