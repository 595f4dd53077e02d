-- How many jobs of each task a window of job K (task i, released a ticks after the window opened) can hold.
use Rattle.std.proofs.Common.{◌≡◌, ℕ, zero, suc, ◌+◌, ◌-◌, ◌*◌, ◌/◌, ◌<◌, ◌≤◌, true, false, cond, not, ◌&&◌, eqb, ltb, leb, ◌⊎◌, List, pos, sym, refl, ap, ◌∙◌, subst, inl, inr, mul-le-mul_right, suc-mul, mul-le-mul_left, le-div_iff_mul-le, arith}
use Rattle.std.proofs.lemmas.Bool.{cases_Bool, both_ways, cond-false, and_parts, and_from, eqb-true, eq-eqb, leb-true, ltb-true, lt-ltb, le-leb, not-true}
use Rattle.table.specs.Rules.{TaskSet, Checked, task_at, task_count}
use Rattle.table.proofs.Ranges.{task_ranges}
use Rattle.policy.specs.Order.{Order, job}
use Rattle.policy.specs.Laws.{Lawful}
use Rattle.theory.specs.BusyPeriod.{ceil_div}
use Rattle.theory.specs.Response.{jobs_ahead}
use Rattle.theory.specs.Lists.{In}
use Rattle.theory.specs.Machine.{Work}
use Rattle.theory.proofs.Sums.{count_at_least}
use Rattle.theory.proofs.Orders.{leads, leads_own_only, leads_other, leads_down, leads_never, ahead_shift}
use Rattle.theory.proofs.Works.{tests, number, total_mono, total_zero, cond_le}
use Rattle.theory.proofs.ByTask.{of_one}
use Rattle.theory.proofs.MachineFacts.{Spaced}
use Rattle.theory.proofs.Pigeonhole.{Newest, newest, spaced_two}
use Rattle.theory.proofs.Window.{key, released_within, ahead_within}

-- what the test of a window says
pub within_facts : (o : Order) (i A opened t : ℕ) (w : Work) → tests (released_within o i A opened t) w ≡ true → (leads o i A w.task w.release ≡ true) × (opened ≤ w.release) × (w.release < opened + t)
within_facts o i A opened t w h =
    let k = and_parts (leads o i A w.task w.release) (leb opened w.release && ltb w.release (opened + t)) h in
    let m = and_parts (leb opened w.release) (ltb w.release (opened + t)) k.1 in
    (k.0, leb-true opened w.release m.0, ltb-true w.release (opened + t) m.1)

pub ahead_facts : (o : Order) (i A opened t : ℕ) (w : Work) → tests (ahead_within o i A opened t) w ≡ true → (leads o i A w.task w.release ≡ true) × (tests (key i A) w ≡ false) × (opened ≤ w.release) × (w.release ≤ opened + t)
ahead_facts o i A opened t w h =
    let k = and_parts (leads o i A w.task w.release && not (tests (key i A) w)) (leb opened w.release && leb w.release (opened + t)) h in
    let l = and_parts (leads o i A w.task w.release) (not (tests (key i A) w)) k.0 in
    let m = and_parts (leb opened w.release) (leb w.release (opened + t)) k.1 in
    (l.0, not-true (tests (key i A) w) l.1, leb-true opened w.release m.0, leb-true w.release (opened + t) m.1)

module _ (s : TaskSet) (o : Order) (checked : Checked s) (law : Lawful s o) (i A opened : ℕ) (here : i < task_count s) (ws : List Work) (far : Spaced s ws) where
  newest_within : (j t N : ℕ) → number (of_one j (released_within o i A opened t)) ws ≡ suc N → Newest s j opened (released_within o i A opened t) ws N
  newest_within j t N e = newest s j opened (released_within o i A opened t) ws far (λ w m h. (within_facts o i A opened t w h).1) N e

  -- of another task, no more than are ahead
  pub count_other : (a j t : ℕ) → A ≡ a + opened → j < task_count s → (j ≡ i → ⊥) → number (of_one j (released_within o i A opened t)) ws ≤ jobs_ahead s o i a j t
  count_other a j t place hj ne = go (number (of_one j (released_within o i A opened t)) ws) refl
    where
      T : ℕ
      T = (task_at s j).period

      low : 1 ≤ T
      low = (task_ranges s checked j hj).period_low

      go : (N : ℕ) → number (of_one j (released_within o i A opened t)) ws ≡ N → N ≤ jobs_ahead s o i a j t
      go zero e = omega arith
      go (suc N) e = two (newest_within j t N e)
        where
          two : Newest s j opened (released_within o i A opened t) ws N → suc N ≤ jobs_ahead s o i a j t
          two (w, m, q, h, le) = count_at_least t (suc N) (λ k. ltb (k * T) t && o.ahead (job j (pos (k * T))) (job i (pos a))) (omega (arith, mul-le-mul_left N low, at.2)) (λ k lt. and_from (ltb (k * T) t) (o.ahead (job j (pos (k * T))) (job i (pos a))) (lt-ltb (k * T) t (omega (arith, early k lt, at.2))) (ahead_at k lt))
            where
              at : (leads o i A w.task w.release ≡ true) × (opened ≤ w.release) × (w.release < opened + t)
              at = within_facts o i A opened t w h

              early : (k : ℕ) → k < suc N → k * T ≤ N * T
              early k lt = mul-le-mul_right T (omega arith)

              ahead_at : (k : ℕ) → k < suc N → o.ahead (job j (pos (k * T))) (job i (pos a)) ≡ true
              ahead_at k lt =
                  let led : leads o i A j w.release ≡ true = subst (λ z. leads o i A z w.release ≡ true) q at.0 in
                  let down : leads o i A j (k * T + opened) ≡ true = leads_down s o law i A j w.release (k * T + opened) here hj (omega (arith, early k lt)) led in
                  sym (ahead_shift s o law i j (k * T) a opened here hj ne) ∙ sym (leads_other s o law i (a + opened) j (k * T + opened) ne) ∙ subst (λ z. leads o i z j (k * T + opened) ≡ true) place down

  -- of its own task, no more than 1 + floor(a / T)
  pub count_own : (a t : ℕ) → A ≡ a + opened → number (of_one i (released_within o i A opened t)) ws ≤ 1 + a / (task_at s i).period
  count_own a t place = go (number (of_one i (released_within o i A opened t)) ws) refl
    where
      low : 1 ≤ (task_at s i).period
      low = (task_ranges s checked i here).period_low

      go : (N : ℕ) → number (of_one i (released_within o i A opened t)) ws ≡ N → N ≤ 1 + a / (task_at s i).period
      go zero e = omega arith
      go (suc N) e = two (newest_within i t N e)
        where
          two : Newest s i opened (released_within o i A opened t) ws N → suc N ≤ 1 + a / (task_at s i).period
          two (w, m, q, h, le) =
              let own : w.release ≤ A = leads_own_only s o law i A w.release here (subst (λ z. leads o i A z w.release ≡ true) q (within_facts o i A opened t w h).0) in
              let fits : N * (task_at s i).period ≤ a = omega arith in
              omega (arith, (le-div_iff_mul-le {k = (task_at s i).period} {x = N} {y = a} low).1 fits)

  -- of its own task and before it, no more than floor(a / T)
  pub count_own_ahead : (a t : ℕ) → A ≡ a + opened → (k : Work) → In k ws → k.task ≡ i → k.release ≡ A → number (of_one i (ahead_within o i A opened t)) ws ≤ a / (task_at s i).period
  count_own_ahead a t place k inside task rel = go (number (of_one i (ahead_within o i A opened t)) ws) refl
    where
      low : 1 ≤ (task_at s i).period
      low = (task_ranges s checked i here).period_low

      go : (N : ℕ) → number (of_one i (ahead_within o i A opened t)) ws ≡ N → N ≤ a / (task_at s i).period
      go zero e = omega arith
      go (suc N) e = two (newest s i opened (ahead_within o i A opened t) ws far (λ w m h. (ahead_facts o i A opened t w h).2) N e)
        where
          two : Newest s i opened (ahead_within o i A opened t) ws N → suc N ≤ a / (task_at s i).period
          two (w, m, q, h, le) = (le-div_iff_mul-le {k = (task_at s i).period} {x = suc N} {y = a} low).1 (three (spaced_two s ws far w k m inside (q ∙ sym task)))
            where
              facts : (leads o i A w.task w.release ≡ true) × (tests (key i A) w ≡ false) × (opened ≤ w.release) × (w.release ≤ opened + t)
              facts = ahead_facts o i A opened t w h

              own : w.release ≤ A
              own = leads_own_only s o law i A w.release here (subst (λ z. leads o i A z w.release ≡ true) q facts.0)

              same_period : (task_at s k.task).period ≡ (task_at s i).period
              same_period = ap (λ z. (task_at s z).period) task

              three : (w ≡ k) ⊎ ((w.release + (task_at s k.task).period ≤ k.release) ⊎ (k.release + (task_at s k.task).period ≤ w.release)) → suc N * (task_at s i).period ≤ a
              three (inl d) = absurd (both_ways (tests (key i A) w) facts.1 (and_from (eqb w.task i) (eqb w.release A) (eq-eqb w.task i q) (eq-eqb w.release A (ap (λ z. z.release) d ∙ rel))))
              three (inr (inl d)) = omega (arith, suc-mul N (task_at s i).period, same_period)
              three (inr (inr d)) = absurd (omega (arith, same_period, low, own))

  -- of any task, no more than ceil(t / T)
  pub count_any : (j t : ℕ) → j < task_count s → number (of_one j (released_within o i A opened t)) ws ≤ ceil_div t (task_at s j).period
  count_any j t hj = go (number (of_one j (released_within o i A opened t)) ws) refl
    where
      low : 1 ≤ (task_at s j).period
      low = (task_ranges s checked j hj).period_low

      go : (N : ℕ) → number (of_one j (released_within o i A opened t)) ws ≡ N → N ≤ ceil_div t (task_at s j).period
      go zero e = omega arith
      go (suc N) e = two (newest_within j t N e)
        where
          two : Newest s j opened (released_within o i A opened t) ws N → suc N ≤ ceil_div t (task_at s j).period
          two (w, m, q, h, le) =
              let fits : suc N * (task_at s j).period ≤ t + ((task_at s j).period - 1) = omega (arith, suc-mul N (task_at s j).period, (within_facts o i A opened t w h).2) in
              (le-div_iff_mul-le {k = (task_at s j).period} {x = suc N} {y = t + ((task_at s j).period - 1)} low).1 fits

  -- of the task of a job behind K released before the window, none
  pub count_none : (j r t : ℕ) → j < task_count s → r < opened → leads o i A j r ≡ false → number (of_one j (released_within o i A opened t)) ws ≡ 0
  count_none j r t hj lt behind = total_zero (λ w. cond (tests (of_one j (released_within o i A opened t)) w) 1 0) ws (λ w m. go w (cases_Bool (tests (of_one j (released_within o i A opened t)) w)))
    where
      go : (w : Work) → (tests (of_one j (released_within o i A opened t)) w ≡ true) ⊎ (tests (of_one j (released_within o i A opened t)) w ≡ false) → ◌≡◌ {A = ℕ} (cond (tests (of_one j (released_within o i A opened t)) w) 1 0) 0
      go w (inr e) = cond-false {A = ℕ} (tests (of_one j (released_within o i A opened t)) w) 1 0 e
      go w (inl e) =
          let k = and_parts (eqb w.task j) (tests (released_within o i A opened t) w) e in
          let f = within_facts o i A opened t w k.1 in
          absurd (both_ways (leads o i A j w.release) (leads_never s o law i A j r w.release here hj (omega (arith, f.1)) behind) (subst (λ z. leads o i A z w.release ≡ true) (eqb-true w.task j k.0) f.0))

  -- ahead within t, released within t + 1
  pub count_ahead : (j t : ℕ) → number (of_one j (ahead_within o i A opened t)) ws ≤ number (of_one j (released_within o i A opened (suc t))) ws
  count_ahead j t = total_mono (λ w. cond (tests (of_one j (ahead_within o i A opened t)) w) 1 0) (λ w. cond (tests (of_one j (released_within o i A opened (suc t))) w) 1 0) ws
      (λ w m. cond_le (tests (of_one j (ahead_within o i A opened t)) w) (tests (of_one j (released_within o i A opened (suc t))) w) 1 1 (λ h. inr (pass w h, omega arith)))
    where
      pass : (w : Work) → tests (of_one j (ahead_within o i A opened t)) w ≡ true → tests (of_one j (released_within o i A opened (suc t))) w ≡ true
      pass w h =
          let k = and_parts (eqb w.task j) (tests (ahead_within o i A opened t) w) h in
          let f = ahead_facts o i A opened t w k.1 in
          and_from (eqb w.task j) (tests (released_within o i A opened (suc t)) w) k.0 (and_from (leads o i A w.task w.release) (leb opened w.release && ltb w.release (opened + suc t)) f.0
          (and_from (leb opened w.release) (ltb w.release (opened + suc t)) (le-leb opened w.release f.2) (lt-ltb w.release (opened + suc t) (omega (arith, f.3)))))
