-- From lanes to the order: lanes made from a lawful order count, block and answer as the definitions say.
use Rattle.std.proofs.Common.{◌≡◌, ℕ, ◌+◌, ◌-◌, ◌*◌, ◌/◌, ◌<◌, ◌≤◌, min, Bool, true, false, cond, not, ◌&&◌, eqb, ltb, leb, List, map, length, ℤ, pos, negsuc, ◌+ℤ◌, nat_abs, ◌≤ℤ◌, sym, refl, ap, ◌∙◌, ap₂, mul-zero, arith}
use Rattle.std.proofs.lemmas.Bool.Decides.{nat_tests}
use Rattle.std.proofs.lemmas.Int.{ints}
use lib.Signed.{le_z}
use Rattle.table.specs.Rules.{TaskSet, Checked, task_at, task_count}
use Rattle.table.proofs.Ranges.{task_ranges}
use Rattle.policy.specs.Order.{Order, job, reaches}
use Rattle.policy.specs.Laws.{Lawful, SmallReach}
use Rattle.policy.specs.Answers.{reach_answer}
use Rattle.policy.specs.declared.job.Job.{Job}
use Rattle.policy.specs.declared.job.Reach.{Reach}
use Rattle.policy.specs.declared.job.Reach.TheVariants.{Always, Never, Within}
use Rattle.theory.specs.BusyPeriod.{ceil_div}
use Rattle.theory.specs.Response.{jobs_ahead, work_ahead, blocking}
use Rattle.theory.specs.Sums.{sum_below, max_below}
use Rattle.analysis.specs.Lanes.{lane_at, lane_jobs, lanes_work, limited, lanes_block}
use Rattle.analysis.specs.Reaches.{lead_of, LaneTo}
use Rattle.analysis.specs.declared.lanes.Lane.{Lane}
use Rattle.analysis.proofs.Counting.{count_same, count_both}
use Rattle.theory.proofs.Sums.{sum_cong, max_cong}
use Rattle.analysis.proofs.Windows.{limited_work}

-- a reach as a lane has it tells the same, for the releases and offsets of an analysis
pub lead_tells : (x : Reach) → SmallReach x → (r a : ℕ) → r ≤ 60001 → a ≤ 60000 → reaches x (pos r) (pos a) ≡ leb (r + 100000) (a + lead_of x)
lead_tells Always small r a hr ha = grind (arith, nat_tests)
lead_tells Never small r a hr ha = grind (arith, nat_tests)
lead_tells (Within y) small r a hr ha = go y small.0 small.1
  where
    go : (z : ℤ) → negsuc 99999 ≤ℤ z → z ≤ℤ pos 100000 → le_z (pos r) (pos a +ℤ z) ≡ leb (r + 100000) (a + nat_abs (z +ℤ pos 100000))
    go (pos n) low high = ap (λ b. b) (grind (arith, nat_tests))
    go (negsuc n) low high = grind (arith, ints, nat_tests)

pub lead_behind : (x : Reach) → SmallReach x → (a : ℕ) → a ≤ 60000 → not (reaches x (negsuc 0) (pos a)) ≡ ltb (a + lead_of x + 1) 100000
lead_behind Always small a ha = grind (arith, nat_tests)
lead_behind Never small a ha = grind (arith, nat_tests)
lead_behind (Within y) small a ha = go y small.0 small.1
  where
    go : (z : ℤ) → negsuc 99999 ≤ℤ z → z ≤ℤ pos 100000 → not (le_z (negsuc 0) (pos a +ℤ z)) ≡ ltb (a + nat_abs (z +ℤ pos 100000) + 1) 100000
    go (pos n) low high = grind (arith, ints, nat_tests)
    go (negsuc n) low high = grind (arith, ints, nat_tests)

pub lead_small : (x : Reach) → SmallReach x → lead_of x ≤ 200000
lead_small Always small = omega arith
lead_small Never small = omega arith
lead_small (Within y) small = go y small.0 small.1
  where
    go : (z : ℤ) → negsuc 99999 ≤ℤ z → z ≤ℤ pos 100000 → nat_abs (z +ℤ pos 100000) ≤ 200000
    go (pos n) low high = omega (arith, ints)
    go (negsuc n) low high = grind (arith, ints, nat_tests)

-- lanes made for the analysis of task i
pub record Made (s : TaskSet) (o : Order) (i : ℕ) (ls : List Lane) : Type 0 where
  pub long : length ls ≡ task_count s
  pub each : (j : ℕ) → j < task_count s → LaneTo s o i j (lane_at ls j)

module _ (s : TaskSet) (o : Order) (checked : Checked s) (lawful : Lawful s o) (i : ℕ) (known : i < task_count s) (ls : List Lane) (made : Made s o i ls) where
  other_reach : (j : ℕ) → j < task_count s → (j ≡ i → ⊥) → reach_answer s o i j ≡ o.reach i j
  other_reach j h ne = ap₂ (λ b e. cond b (cond e (Within (pos 0)) (o.reach i j)) Never) both apart
    where
      both : (ltb i (task_count s) && ltb j (task_count s)) ≡ true
      both = grind (arith, nat_tests)

      apart : eqb i j ≡ false
      apart = grind (arith, nat_tests)

  -- a release of another task is ahead exactly as its lane says
  ahead_lane : (j : ℕ) → j < task_count s → (j ≡ i → ⊥) → (r a : ℕ) → r ≤ 60001 → a ≤ 60000 → o.ahead (job j (pos r)) (job i (pos a)) ≡ leb (r + 100000) (a + (lane_at ls j).lead)
  ahead_lane j h ne r a hr ha =
      lawful.reach_rule i j (pos r) (pos a) known h (λ e. ne (sym e))
      ∙ lead_tells (o.reach i j) (lawful.reach_range i j known h (λ e. ne (sym e))) r a hr ha
      ∙ ap (λ x. leb (r + 100000) (a + x)) (sym ((made.each j h).2 ∙ ap lead_of (other_reach j h ne)))

  behind_lane : (j : ℕ) → j < task_count s → (j ≡ i → ⊥) → (a : ℕ) → a ≤ 60000 → o.ahead (job i (pos a)) (job j (negsuc 0)) ≡ ltb (a + (lane_at ls j).lead + 1) 100000
  behind_lane j h ne a ha =
      lawful.total (job i (pos a)) (job j (negsuc 0)) known h (λ e. ne (sym (ap (λ (x : Job). x.task) e)))
      ∙ ap not (lawful.reach_rule i j (negsuc 0) (pos a) known h (λ e. ne (sym e)))
      ∙ lead_behind (o.reach i j) (lawful.reach_range i j known h (λ e. ne (sym e))) a ha
      ∙ ap (λ x. ltb (a + x + 1) 100000) (sym ((made.each j h).2 ∙ ap lead_of (other_reach j h ne)))

  count_lane : (j : ℕ) → j < task_count s → (j ≡ i → ⊥) → (a t : ℕ) → a ≤ 60000 → t ≤ 60001 → jobs_ahead s o i a j t ≡ lane_jobs (limited a (lane_at ls j)) t
  count_lane j h ne a t ha ht =
      count_same t (λ k. ltb (k * (task_at s j).period) t && o.ahead (job j (pos (k * (task_at s j).period))) (job i (pos a))) (λ k. ltb (k * (task_at s j).period) t && leb (k * (task_at s j).period + 100000) (a + (lane_at ls j).lead)) (λ k hk. each (k * (task_at s j).period) (ltb (k * (task_at s j).period) t) refl)
      ∙ count_both t (task_at s j).period 100000 (a + (lane_at ls j).lead) (task_ranges s checked j h).period_low
      ∙ ap (λ d. min (ceil_div t d) (cond (ltb (a + (lane_at ls j).lead) 100000) 0 ((a + (lane_at ls j).lead - 100000) / d + 1))) (sym (made.each j h).1)
    where
      each : (r : ℕ) (b : Bool) → ltb r t ≡ b → (ltb r t && o.ahead (job j (pos r)) (job i (pos a))) ≡ (ltb r t && leb (r + 100000) (a + (lane_at ls j).lead))
      each r true e = let small : r ≤ 60001 = grind (arith, nat_tests) in ap (λ x. ltb r t && x) (ahead_lane j h ne r a small ha)
      each r false e = ap (λ b. b && o.ahead (job j (pos r)) (job i (pos a))) e ∙ sym (ap (λ b. b && leb (r + 100000) (a + (lane_at ls j).lead)) e)

  -- the work ahead, as the lanes have it
  pub work_lanes : (a t : ℕ) → a ≤ 60000 → t ≤ 60001 → work_ahead s o i a t ≡ lanes_work (map (limited a) ls) t
  work_lanes a t ha ht =
      sum_cong (task_count s) (λ j. cond (eqb j i) 0 (jobs_ahead s o i a j t * (task_at s j).cost)) (λ j. lane_jobs (limited a (lane_at ls j)) t * (lane_at ls j).cost) (λ j h. each j h (eqb j i) refl)
      ∙ ap (λ n. sum_below n (λ j. lane_jobs (limited a (lane_at ls j)) t * (lane_at ls j).cost)) (sym made.long)
      ∙ sym (limited_work a ls t)
    where
      each : (j : ℕ) → j < task_count s → (b : Bool) → eqb j i ≡ b → cond (eqb j i) 0 (jobs_ahead s o i a j t * (task_at s j).cost) ≡ lane_jobs (limited a (lane_at ls j)) t * (lane_at ls j).cost
      each j h true e =
          let free : (lane_at ls j).cost ≡ 0 = (made.each j h).0 ∙ ap (λ b. cond b 0 (task_at s j).cost) e in
          ap (λ b. cond b 0 (jobs_ahead s o i a j t * (task_at s j).cost)) e ∙ sym (ap (λ c. lane_jobs (limited a (lane_at ls j)) t * c) free ∙ mul-zero (lane_jobs (limited a (lane_at ls j)) t))
      each j h false e =
          let ne : j ≡ i → ⊥ = λ same. absurd (let z : ◌≡◌ {A = ℕ} 0 1 = grind (arith, nat_tests) in omega arith) in
          let cost : (lane_at ls j).cost ≡ (task_at s j).cost = (made.each j h).0 ∙ ap (λ b. cond b 0 (task_at s j).cost) e in
          ap (λ b. cond b 0 (jobs_ahead s o i a j t * (task_at s j).cost)) e ∙ ap₂ ◌*◌ (count_lane j h ne a t ha ht) (sym cost)

  -- the blocking, as the lanes have it
  pub blocking_lanes : (a : ℕ) → a ≤ 60000 → blocking s o i a ≡ lanes_block ls a
  blocking_lanes a ha =
      max_cong (task_count s) (λ j. cond (eqb j i) 0 (cond (o.ahead (job i (pos a)) (job j (negsuc 0))) ((task_at s j).cost - 1) 0)) (λ j. cond (ltb (a + (lane_at ls j).lead + 1) 100000) ((lane_at ls j).cost - 1) 0) (λ j h. each j h (eqb j i) refl)
      ∙ ap (λ n. max_below n (λ j. cond (ltb (a + (lane_at ls j).lead + 1) 100000) ((lane_at ls j).cost - 1) 0)) (sym made.long)
    where
      none : (b : Bool) (c : ℕ) → c ≡ 0 → cond b (c - 1) 0 ≡ 0
      none true c e = omega (arith, e)
      none false c e = refl

      each : (j : ℕ) → j < task_count s → (b : Bool) → eqb j i ≡ b → cond (eqb j i) 0 (cond (o.ahead (job i (pos a)) (job j (negsuc 0))) ((task_at s j).cost - 1) 0) ≡ cond (ltb (a + (lane_at ls j).lead + 1) 100000) ((lane_at ls j).cost - 1) 0
      each j h true e =
          let free : (lane_at ls j).cost ≡ 0 = (made.each j h).0 ∙ ap (λ b. cond b 0 (task_at s j).cost) e in
          ap (λ b. cond b 0 (cond (o.ahead (job i (pos a)) (job j (negsuc 0))) ((task_at s j).cost - 1) 0)) e ∙ sym (none (ltb (a + (lane_at ls j).lead + 1) 100000) (lane_at ls j).cost free)
      each j h false e =
          let ne : j ≡ i → ⊥ = λ same. absurd (let z : ◌≡◌ {A = ℕ} 0 1 = grind (arith, nat_tests) in omega arith) in
          let cost : (lane_at ls j).cost ≡ (task_at s j).cost = (made.each j h).0 ∙ ap (λ b. cond b 0 (task_at s j).cost) e in
          ap (λ b. cond b 0 (cond (o.ahead (job i (pos a)) (job j (negsuc 0))) ((task_at s j).cost - 1) 0)) e ∙ ap₂ (λ b c. cond b (c - 1) 0) (behind_lane j h ne a ha) (sym cost)
