-- Lanes that count every release ask for the load of the table.
use Rattle.std.proofs.Common.{◌≡◌, ℕ, ◌+◌, ◌*◌, ◌<◌, ◌≤◌, List, length, ap, ap₂, mul-le-mul, arith}
use Rattle.table.specs.Rules.{TaskSet, Checked, task_at, task_count}
use Rattle.table.proofs.Ranges.{task_ranges, count_ranges}
use Rattle.theory.specs.BusyPeriod.{ceil_div, load, BusyPeriod, Overloaded}
use Rattle.theory.specs.Sums.{sum_below}
use Rattle.analysis.specs.Busy.{FullLane}
use Rattle.analysis.specs.Lanes.{lane_at, lane_jobs, lanes_work}
use Rattle.analysis.specs.declared.lanes.Lane.{Lane}
use Rattle.analysis.proofs.Counting.{ceil_small}
use Rattle.analysis.proofs.Exact.{own_count}
use Rattle.analysis.proofs.Growth.{work_mono}
use Rattle.theory.proofs.Sums.{sum_cong, sum_split}
use Rattle.analysis.proofs.Windows.{covers_solves, least_upto}

module _ (s : TaskSet) (checked : Checked s) (ls : List Lane) (long : length ls ≡ task_count s) (full : (j : ℕ) → j < task_count s → FullLane (task_at s j) (lane_at ls j)) where
  pub full_work : (t : ℕ) → t ≤ 60000 → 0 + lanes_work ls t ≡ load s t
  full_work t h =
      let same : sum_below (task_count s) (λ j. lane_jobs (lane_at ls j) t * (lane_at ls j).cost) ≡ load s t = sum_cong (task_count s) (λ j. lane_jobs (lane_at ls j) t * (lane_at ls j).cost) (λ j. ceil_div t (task_at s j).period * (task_at s j).cost) each in
      omega (arith, same, ap (λ n. sum_below n (λ j. lane_jobs (lane_at ls j) t * (lane_at ls j).cost)) long)
    where
      each : (j : ℕ) → j < task_count s → lane_jobs (lane_at ls j) t * (lane_at ls j).cost ≡ ceil_div t (task_at s j).period * (task_at s j).cost
      each j k =
          let l = full j k in
          let r = task_ranges s checked j k in
          let jobs : lane_jobs (lane_at ls j) t ≡ ceil_div t (task_at s j).period = omega (arith, ap (ceil_div t) l.1, l.3, ceil_small t (task_at s j).period r.period_low) in
          ap₂ ◌*◌ jobs l.0

  -- the load is never 0 at a time of at least 1
  loaded : (t : ℕ) → 1 ≤ t → 1 ≤ load s t
  loaded t h =
      let some = (count_ranges s checked).0 in
      let r = task_ranges s checked 0 some in
      let one = sum_split (task_count s) 0 (λ j. ceil_div t (task_at s j).period * (task_at s j).cost) some in
      omega (arith, one, mul-le-mul {n₁ = 1} {m₁ = 1} {n₂ = ceil_div t (task_at s 0).period} {m₂ = (task_at s 0).cost} (omega (arith, own_count 0 t (task_at s 0).period r.period_low h)) r.cost_low)

  pub climbed_busy : (t : ℕ) → 1 ≤ t → t ≤ 60000 → 0 + lanes_work ls t ≤ t → ((v : ℕ) → 1 ≤ v → 0 + lanes_work ls v ≤ v → t ≤ v) → BusyPeriod s t
  climbed_busy t low high covers first =
      least_upto 1 t 60000 (λ v. 0 + lanes_work ls v) (load s) full_work high
      (covers_solves (λ v. 0 + lanes_work ls v) (λ x y h. omega (arith, work_mono ls x y h)) t low (omega (arith, full_work t high, loaded t low)) covers first)

  pub none_overloaded : ((v : ℕ) → 1 ≤ v → 0 + lanes_work ls v ≤ v → 60000 < v) → Overloaded s
  none_overloaded none L short busy =
      let past : 60000 < L = none L busy.from (omega (arith, full_work L short, busy.solves)) in
      omega arith
