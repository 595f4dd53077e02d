-- The work of the tasks above i: it grows with the window, two windows hold no less than the one they make, and it fits into the busy period.
use Rattle.std.proofs.Common.{◌≡◌, ℕ, suc, ◌+◌, ◌*◌, ◌/◌, ◌<◌, ◌≤◌, Bool, true, false, cond, ltb, sym, refl, ap, mul-le-mul_right, add-mul, arith}
use Rattle.table.specs.Rules.{TaskSet, Checked, task_at, task_count}
use Rattle.table.specs.declared.kinds.Mode.{Mode}
use Rattle.table.specs.declared.kinds.Mode.TheVariants.{NonPreemptive, Preemptive}
use Rattle.table.proofs.Ranges.{task_ranges}
use Rattle.policy.specs.Orders.{fixed_order}
use Rattle.theory.specs.BusyPeriod.{ceil_div, BusyPeriod}
use Rattle.theory.specs.LeastSolution.{LeastSolution}
use Rattle.theory.specs.FixedPriority.{sum_above, blocking_below, level_load}
use Rattle.theory.proofs.Sums.{sum_cong, sum_mono, sum_add}
use Rattle.theory.proofs.Solutions.{Monotone, solution}
use Rattle.theory.proofs.Divisions.{ceil_mono, ceil_add, ceil_suc}
use Rattle.theory.proofs.Existence.{load_split, blocked_fit, ceil_low}
use Rattle.policy.specs.Shipped.{fixed_lawful}
use Rattle.theory.proofs.FixedOrder.{work_above, same_blocking}

module _ (s : TaskSet) (checked : Checked s) (i : ℕ) (here : i < task_count s) where
  -- a summand for one task
  abbrev pub part : ℕ → ℕ → ℕ
  part t j = cond (ltb (task_at s j).rank (task_at s i).rank) (ceil_div t (task_at s j).period * (task_at s j).cost) 0

  abbrev pub above : ℕ → ℕ
  above t = sum_above s i (λ j. ceil_div t (task_at s j).period * (task_at s j).cost)

  pub above_mono : Monotone above
  above_mono x y le = sum_mono (task_count s) (part x) (part y) (λ j lt. go j lt (ltb (task_at s j).rank (task_at s i).rank))
    where
      go : (j : ℕ) → j < task_count s → (b : Bool) → cond b (ceil_div x (task_at s j).period * (task_at s j).cost) 0 ≤ cond b (ceil_div y (task_at s j).period * (task_at s j).cost) 0
      go j lt true = mul-le-mul_right (task_at s j).cost (ceil_mono x y (task_at s j).period (task_ranges s checked j lt).period_low le)
      go j lt false = omega arith

  pub above_add : (x y : ℕ) → above (x + y) ≤ above x + above y
  above_add x y = omega (arith, sum_mono (task_count s) (part (x + y)) (λ j. part x j + part y j) (λ j lt. go j lt (ltb (task_at s j).rank (task_at s i).rank)), sum_add (task_count s) (part x) (part y))
    where
      go : (j : ℕ) → j < task_count s → (b : Bool) → cond b (ceil_div (x + y) (task_at s j).period * (task_at s j).cost) 0 ≤ cond b (ceil_div x (task_at s j).period * (task_at s j).cost) 0 + cond b (ceil_div y (task_at s j).period * (task_at s j).cost) 0
      go j lt true = omega (arith, mul-le-mul_right (task_at s j).cost (ceil_add x y (task_at s j).period (task_ranges s checked j lt).period_low), add-mul (ceil_div x (task_at s j).period) (ceil_div y (task_at s j).period) (task_at s j).cost)
      go j lt false = omega arith

  -- releases at t itself counted too
  pub above_suc : (t : ℕ) → sum_above s i (λ j. (1 + t / (task_at s j).period) * (task_at s j).cost) ≡ above (suc t)
  above_suc t = sum_cong (task_count s) (λ j. cond (ltb (task_at s j).rank (task_at s i).rank) ((1 + t / (task_at s j).period) * (task_at s j).cost) 0) (part (suc t)) (λ j lt. ap (λ z. cond (ltb (task_at s j).rank (task_at s i).rank) (z * (task_at s j).cost) 0) (sym (ceil_suc t (task_at s j).period (task_ranges s checked j lt).period_low)))

  -- level_load by mode: the blocking is added without preemption
  abbrev pub extra : Mode → ℕ
  extra Preemptive = 0
  extra NonPreemptive = blocking_below s i

  pub load_parts : (m : Mode) (t : ℕ) → level_load m s i t ≡ (ceil_div t (task_at s i).period * (task_at s i).cost + above t) + extra m
  load_parts Preemptive t = omega arith
  load_parts NonPreemptive t = refl

  extra_small : (m : Mode) → extra m ≤ blocking_below s i
  extra_small Preemptive = omega arith
  extra_small NonPreemptive = omega arith

  pub load_mono : (m : Mode) → Monotone (level_load m s i)
  load_mono m x y le = omega (arith, load_parts m x, load_parts m y, above_mono x y le, mul-le-mul_right (task_at s i).cost (ceil_mono x y (task_at s i).period (task_ranges s checked i here).period_low le))

  pub load_first : (m : Mode) → 1 ≤ level_load m s i 1
  load_first m = omega (arith, load_parts m 1, ceil_low s (fixed_order s) checked (fixed_lawful s checked) i 0 here 1 i (omega arith) here, (task_ranges s checked i here).cost_low)

  load_fits : (m : Mode) (L : ℕ) → BusyPeriod s L → level_load m s i L ≤ L
  load_fits m L busy = omega (
    arith,
    load_parts m L,
    extra_small m,
    busy.solves,
    load_split s (fixed_order s) checked (fixed_lawful s checked) i 0 here L,
    blocked_fit s (fixed_order s) checked (fixed_lawful s checked) i 0 here L busy.from,
    work_above s checked i 0 here L,
    same_blocking s checked i 0 here,
  )

  -- the busy period of i and the tasks above it
  pub level_exists : (m : Mode) (L : ℕ) → BusyPeriod s L → (level : ℕ) × LeastSolution 1 (level_load m s i) level × (level ≤ L)
  level_exists m L busy = solution 1 (level_load m s i) L (load_mono m) (load_first m) busy.from (load_fits m L busy)
