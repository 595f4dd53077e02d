-- Below the busy period every offset has a response.
use Rattle.std.proofs.Common.{◌≡◌, ℕ, suc, ◌+◌, ◌-◌, ◌*◌, ◌/◌, ◌<◌, ◌≤◌, max, Bool, true, false, cond, not, ◌&&◌, eqb, ltb, ◌⊎◌, pos, negsuc, refl, ap, ◌∙◌, inl, inr, mul-le-mul_right, suc-mul, add-mul, le-div_iff_mul-le, zero-mul, div-mul-le_self, arith}
use Rattle.std.proofs.lemmas.Bool.{cases_Bool, both_ways, cond-true, cond-false, and_parts, and_from, eqb-false, ltb-true, lt-ltb}
use Rattle.table.specs.Rules.{TaskSet, Checked, task_at, task_count}
use Rattle.table.specs.declared.kinds.Mode.{Mode}
use Rattle.table.specs.declared.kinds.Mode.TheVariants.{NonPreemptive, Preemptive}
use Rattle.table.proofs.Ranges.{task_ranges}
use Rattle.policy.specs.Order.{Order, job}
use Rattle.policy.specs.Laws.{Lawful}
use Rattle.theory.specs.Sums.{sum_below}
use Rattle.theory.specs.LeastSolution.{LeastSolution}
use Rattle.theory.specs.BusyPeriod.{ceil_div, load, BusyPeriod}
use Rattle.theory.specs.Response.{jobs_ahead, work_ahead, blocking, until_finish, until_start, ResponseAt, ResponseIn}
use Rattle.theory.proofs.Sums.{sum_mono, sum_split, max_taken, count_at_most, count_mono}
use Rattle.theory.proofs.Solutions.{Monotone, solution}
use Rattle.theory.proofs.Orders.{ahead_before, job_task}

module _ (s : TaskSet) (o : Order) (checked : Checked s) (law : Lawful s o) (i a : ℕ) (here : i < task_count s) where
  -- the count grows with the window
  jobs_ahead_mono : (j x y : ℕ) → x ≤ y → jobs_ahead s o i a j x ≤ jobs_ahead s o i a j y
  jobs_ahead_mono j x y le = count_mono x y (test x) (test y) le (λ k lt h. let p = and_parts (ltb (k * (task_at s j).period) x) (o.ahead (job j (pos (k * (task_at s j).period))) (job i (pos a))) h in and_from (ltb (k * (task_at s j).period) y) (o.ahead (job j (pos (k * (task_at s j).period))) (job i (pos a))) (lt-ltb (k * (task_at s j).period) y (omega (arith, ltb-true (k * (task_at s j).period) x p.0))) p.1)
    where
      test : ℕ → ℕ → Bool
      test t k = ltb (k * (task_at s j).period) t && o.ahead (job j (pos (k * (task_at s j).period))) (job i (pos a))

  pub work_ahead_mono : (x y : ℕ) → x ≤ y → work_ahead s o i a x ≤ work_ahead s o i a y
  work_ahead_mono x y le = sum_mono (task_count s) (λ j. cond (eqb j i) 0 (jobs_ahead s o i a j x * (task_at s j).cost)) (λ j. cond (eqb j i) 0 (jobs_ahead s o i a j y * (task_at s j).cost)) (λ j lt. go j (eqb j i))
    where
      go : (j : ℕ) (b : Bool) → cond b 0 (jobs_ahead s o i a j x * (task_at s j).cost) ≤ cond b 0 (jobs_ahead s o i a j y * (task_at s j).cost)
      go j true = omega arith
      go j false = mul-le-mul_right (task_at s j).cost (jobs_ahead_mono j x y le)

  pub until_finish_mono : Monotone (until_finish s o i a)
  until_finish_mono x y le = omega (arith, work_ahead_mono x y le)

  pub until_start_mono : Monotone (until_start s o i a)
  until_start_mono x y le = omega (arith, work_ahead_mono (suc x) (suc y) (omega arith))

  -- no more are ahead than fit
  jobs_ahead_fit : (j t : ℕ) → j < task_count s → jobs_ahead s o i a j t ≤ ceil_div t (task_at s j).period
  jobs_ahead_fit j t hj = count_at_most t (ceil_div t (task_at s j).period) (λ k. ltb (k * (task_at s j).period) t && o.ahead (job j (pos (k * (task_at s j).period))) (job i (pos a))) (λ k lt h. (le-div_iff_mul-le {k = (task_at s j).period} {x = suc k} {y = t + ((task_at s j).period - 1)} low).1
      (omega (arith, suc-mul k (task_at s j).period, ltb-true (k * (task_at s j).period) t (and_parts (ltb (k * (task_at s j).period) t) (o.ahead (job j (pos (k * (task_at s j).period))) (job i (pos a))) h).0)))
    where
      low : 1 ≤ (task_at s j).period
      low = (task_ranges s checked j hj).period_low

  own_fit : (L : ℕ) → a < L → 1 + a / (task_at s i).period ≤ ceil_div L (task_at s i).period
  own_fit L lt = (le-div_iff_mul-le {k = (task_at s i).period} {x = 1 + a / (task_at s i).period} {y = L + ((task_at s i).period - 1)} low).1 (omega (arith, add-mul 1 (a / (task_at s i).period) (task_at s i).period, div-mul-le_self a (task_at s i).period))
    where
      low : 1 ≤ (task_at s i).period
      low = (task_ranges s checked i here).period_low

  work_fit : (L : ℕ) → work_ahead s o i a L ≤ sum_below (task_count s) (λ j. cond (eqb j i) 0 (ceil_div L (task_at s j).period * (task_at s j).cost))
  work_fit L = sum_mono (task_count s) (λ j. cond (eqb j i) 0 (jobs_ahead s o i a j L * (task_at s j).cost)) (λ j. cond (eqb j i) 0 (ceil_div L (task_at s j).period * (task_at s j).cost)) (λ j lt. go j lt (eqb j i))
    where
      go : (j : ℕ) → j < task_count s → (b : Bool) → cond b 0 (jobs_ahead s o i a j L * (task_at s j).cost) ≤ cond b 0 (ceil_div L (task_at s j).period * (task_at s j).cost)
      go j lt true = omega arith
      go j lt false = mul-le-mul_right (task_at s j).cost (jobs_ahead_fit j L lt)

  pub load_split : (L : ℕ) → load s L ≡ ceil_div L (task_at s i).period * (task_at s i).cost + sum_below (task_count s) (λ j. cond (eqb j i) 0 (ceil_div L (task_at s j).period * (task_at s j).cost))
  load_split L = sum_split (task_count s) i (λ j. ceil_div L (task_at s j).period * (task_at s j).cost) here

  cost_low : 1 ≤ (task_at s i).cost
  cost_low = (task_ranges s checked i here).cost_low

  -- the busy period covers what is asked for before the job is finished
  pub finish_covered : (L : ℕ) → BusyPeriod s L → a < L → until_finish s o i a L ≤ L
  finish_covered L busy lt = omega (arith, busy.solves, load_split L, work_fit L, mul-le-mul_right (task_at s i).cost (own_fit L lt))

  pub finish_exists : (L : ℕ) → BusyPeriod s L → a < L → (F : ℕ) × LeastSolution 1 (until_finish s o i a) F × (F ≤ L)
  finish_exists L busy lt = solution 1 (until_finish s o i a) L until_finish_mono (omega (arith, add-mul 1 (a / (task_at s i).period) (task_at s i).cost, cost_low)) busy.from (finish_covered L busy lt)

  -- a task that blocks has no job ahead
  none_ahead : (j t : ℕ) → j < task_count s → (j ≡ i → ⊥) → o.ahead (job i (pos a)) (job j (negsuc 0)) ≡ true → jobs_ahead s o i a j t ≡ 0
  none_ahead j t hj ne h = omega (arith, count_at_most t 0 (λ k. ltb (k * (task_at s j).period) t && o.ahead (job j (pos (k * (task_at s j).period))) (job i (pos a))) (λ k lt e. absurd (clash k (and_parts (ltb (k * (task_at s j).period) t) (o.ahead (job j (pos (k * (task_at s j).period))) (job i (pos a))) e).1)))
    where
      clash : (k : ℕ) → o.ahead (job j (pos (k * (task_at s j).period))) (job i (pos a)) ≡ true → ⊥
      clash k e = both_ways (o.ahead (job j (negsuc 0)) (job i (pos a))) (law.total (job j (negsuc 0)) (job i (pos a)) hj here (λ q. ne (job_task q)) ∙ ap not h) (ahead_before s o law i j (k * (task_at s j).period) a here hj ne e)

  pub ceil_low : (L j : ℕ) → 1 ≤ L → j < task_count s → (task_at s j).cost ≤ ceil_div L (task_at s j).period * (task_at s j).cost
  ceil_low L j le hj = omega (arith, mul-le-mul_right (task_at s j).cost ((le-div_iff_mul-le {k = (task_at s j).period} {x = 1} {y = L + ((task_at s j).period - 1)} (task_ranges s checked j hj).period_low).1 (omega arith)))

  -- blocking and the work ahead stay below what the other tasks ask for, or there is neither
  pub blocked_fit : (L : ℕ) → 1 ≤ L → blocking s o i a + work_ahead s o i a L ≤ sum_below (task_count s) (λ j. cond (eqb j i) 0 (ceil_div L (task_at s j).period * (task_at s j).cost))
  blocked_fit L le = go (max_taken (task_count s) (λ j. cond (eqb j i) 0 (cond (o.ahead (job i (pos a)) (job j (negsuc 0))) ((task_at s j).cost - 1) 0)))
    where
      others : ℕ
      others = sum_below (task_count s) (λ j. cond (eqb j i) 0 (ceil_div L (task_at s j).period * (task_at s j).cost))

      go : (blocking s o i a ≡ 0) ⊎ ((j : ℕ) × (j < task_count s) × (blocking s o i a ≡ cond (eqb j i) 0 (cond (o.ahead (job i (pos a)) (job j (negsuc 0))) ((task_at s j).cost - 1) 0))) → blocking s o i a + work_ahead s o i a L ≤ others
      go (inl e) = omega (arith, work_fit L)
      go (inr (b, hb, e)) = two (cases_Bool (eqb b i)) (cases_Bool (o.ahead (job i (pos a)) (job b (negsuc 0))))
        where
          two : (eqb b i ≡ true) ⊎ (eqb b i ≡ false) → (o.ahead (job i (pos a)) (job b (negsuc 0)) ≡ true) ⊎ (o.ahead (job i (pos a)) (job b (negsuc 0)) ≡ false) → blocking s o i a + work_ahead s o i a L ≤ others
          two (inl q) r = omega (arith, work_fit L, e ∙ cond-true (eqb b i) 0 (cond (o.ahead (job i (pos a)) (job b (negsuc 0))) ((task_at s b).cost - 1) 0) q)
          two (inr q) (inr r) = omega (arith, work_fit L, e ∙ cond-false (eqb b i) 0 (cond (o.ahead (job i (pos a)) (job b (negsuc 0))) ((task_at s b).cost - 1) 0) q ∙ cond-false (o.ahead (job i (pos a)) (job b (negsuc 0))) ((task_at s b).cost - 1) 0 r)
          two (inr q) (inl r) =
              let mine : ℕ → ℕ = λ j. cond (eqb j i) 0 (jobs_ahead s o i a j L * (task_at s j).cost) in
              let theirs : ℕ → ℕ = λ j. cond (eqb j i) 0 (ceil_div L (task_at s j).period * (task_at s j).cost) in
              let left : blocking s o i a ≡ (task_at s b).cost - 1 = e ∙ cond-false (eqb b i) 0 (cond (o.ahead (job i (pos a)) (job b (negsuc 0))) ((task_at s b).cost - 1) 0) q ∙ cond-true (o.ahead (job i (pos a)) (job b (negsuc 0))) ((task_at s b).cost - 1) 0 r in
              let empty : cond (eqb b i) 0 (jobs_ahead s o i a b L * (task_at s b).cost) ≡ 0 = cond-false (eqb b i) 0 (jobs_ahead s o i a b L * (task_at s b).cost) q ∙ ap (λ z. z * (task_at s b).cost) (none_ahead b L hb (eqb-false b i q) r) ∙ zero-mul (task_at s b).cost in
              let full : cond (eqb b i) 0 (ceil_div L (task_at s b).period * (task_at s b).cost) ≡ ceil_div L (task_at s b).period * (task_at s b).cost = cond-false (eqb b i) 0 (ceil_div L (task_at s b).period * (task_at s b).cost) q in
              omega (arith, sum_split (task_count s) b mine hb, sum_split (task_count s) b theirs hb, ceil_low L b le hb, rest b)
            where
              rest : (b : ℕ) → sum_below (task_count s) (λ j. cond (eqb j b) 0 (cond (eqb j i) 0 (jobs_ahead s o i a j L * (task_at s j).cost))) ≤ sum_below (task_count s) (λ j. cond (eqb j b) 0 (cond (eqb j i) 0 (ceil_div L (task_at s j).period * (task_at s j).cost)))
              rest b = sum_mono (task_count s) (λ j. cond (eqb j b) 0 (cond (eqb j i) 0 (jobs_ahead s o i a j L * (task_at s j).cost))) (λ j. cond (eqb j b) 0 (cond (eqb j i) 0 (ceil_div L (task_at s j).period * (task_at s j).cost))) (λ j lt. each j lt (eqb j b) (eqb j i))
                where
                  each : (j : ℕ) → j < task_count s → (x y : Bool) → cond x 0 (cond y 0 (jobs_ahead s o i a j L * (task_at s j).cost)) ≤ cond x 0 (cond y 0 (ceil_div L (task_at s j).period * (task_at s j).cost))
                  each j lt true y = omega arith
                  each j lt false true = omega arith
                  each j lt false false = mul-le-mul_right (task_at s j).cost (jobs_ahead_fit j L lt)

  -- and before it begins, with a tick to spare
  pub start_covered : (L : ℕ) → BusyPeriod s L → a < L → until_start s o i a (L - 1) ≤ L - 1
  start_covered L busy lt =
      let back : suc (L - 1) ≡ L = omega (arith, busy.from) in
      omega (
        arith,
        busy.from,
        busy.solves,
        load_split L,
        blocked_fit L busy.from,
        cost_low,
        ap (λ z. work_ahead s o i a z) back,
        mul-le-mul_right (task_at s i).cost (own_fit L lt),
        add-mul 1 (a / (task_at s i).period) (task_at s i).cost,
      )

  pub start_exists : (L : ℕ) → BusyPeriod s L → a < L → (G : ℕ) × LeastSolution 0 (until_start s o i a) G × (G ≤ L - 1)
  start_exists L busy lt = solution 0 (until_start s o i a) (L - 1) until_start_mono (omega arith) (omega arith) (start_covered L busy lt)

  -- every offset in the busy period has a response
  pub response_exists : (L : ℕ) → BusyPeriod s L → a < L → (r : ℕ) × ResponseAt s o i a r
  response_exists L busy lt = go s.mode
    where
      go : (m : Mode) → (r : ℕ) × ResponseIn m s o i a r
      go Preemptive = let x = finish_exists L busy lt in (max (task_at s i).cost (x.0 - a), (x.0, x.1, refl))
      go NonPreemptive = let x = start_exists L busy lt in (max (task_at s i).cost (x.0 + (task_at s i).cost - a), (x.0, x.1, refl))
