-- The work of lanes grows with the time.
use Rattle.std.proofs.Common.{ℕ, ◌+◌, ◌-◌, ◌*◌, ◌/◌, ◌≤◌, List, length, mul-le-mul, mul-le-mul_right, div-mul-le_self, arith}
use Rattle.std.proofs.lemmas.Nat.{le-div}
use Rattle.theory.specs.BusyPeriod.{ceil_div}
use Rattle.analysis.specs.Lanes.{lane_at, lane_jobs, lanes_work}
use Rattle.analysis.specs.declared.lanes.Lane.{Lane}
use Rattle.analysis.proofs.Counting.{ceil_small}
use Rattle.theory.proofs.Sums.{sum_mono}

pub div_mono : (d x y : ℕ) → 1 ≤ d → x ≤ y → x / d ≤ y / d
div_mono d x y pos h = le-div (x / d) y d pos (omega (arith, div-mul-le_self x d))

pub ceil_mono : (d t v : ℕ) → 1 ≤ d → t ≤ v → ceil_div t d ≤ ceil_div v d
ceil_mono d t v pos h = div_mono d (t + (d - 1)) (v + (d - 1)) pos (omega arith)

pub jobs_mono : (l : Lane) (t v : ℕ) → t ≤ v → lane_jobs l t ≤ lane_jobs l v
jobs_mono l t v h = omega (arith, ceil_mono l.period t v l.period_low h)

-- within 2 ^ 32 ticks a lane has at most 2 ^ 44 ticks of work
pub share_small : (l : Lane) (t : ℕ) → t ≤ 4294967296 → lane_jobs l t * l.cost ≤ 17592186044416
share_small l t h = mul-le-mul {n₁ = lane_jobs l t} {m₁ = l.cost} {n₂ = 4294967296} {m₂ = 4096} (omega (arith, ceil_small t l.period l.period_low)) l.cost_high

pub work_mono : (ls : List Lane) (t v : ℕ) → t ≤ v → lanes_work ls t ≤ lanes_work ls v
work_mono ls t v h = sum_mono (length ls) (λ j. lane_jobs (lane_at ls j) t * (lane_at ls j).cost) (λ j. lane_jobs (lane_at ls j) v * (lane_at ls j).cost) (λ j k. mul-le-mul_right (lane_at ls j).cost (jobs_mono (lane_at ls j) t v h))
