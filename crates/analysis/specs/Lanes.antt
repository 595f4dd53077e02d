-- The other tasks as one task's analysis sees them: each a lane of jobs, of which a number can come ahead of the job at an offset.
use Rattle.std.specs.Prelude.{ℕ, ◌+◌, ◌-◌, ◌*◌, ◌/◌, min, cond, List, length, nat_lt, slice_index_or}
use Rattle.std.proofs.Common.{lit≤}
use Rattle.theory.specs.BusyPeriod.{ceil_div}
use Rattle.theory.specs.Sums.{sum_below, max_below}
use Rattle.analysis.specs.declared.lanes.Lane.{Lane}

-- past the last lane, one that no statement speaks of
abbrev pub no_lane : Lane
no_lane = record { cost = 0; period = 1; lead = 0; limit = 0; cost_high = lit≤ tt; period_low = lit≤ tt; period_high = lit≤ tt; lead_high = lit≤ tt }

abbrev pub lane_at : List Lane → ℕ → Lane
lane_at ls j = slice_index_or ls j no_lane

-- jobs of the lane released before t that come ahead
abbrev pub lane_jobs : Lane → ℕ → ℕ
lane_jobs l t = min (ceil_div t l.period) l.limit

abbrev pub lanes_work : List Lane → ℕ → ℕ
lanes_work ls t = sum_below (length ls) (λ j. lane_jobs (lane_at ls j) t * (lane_at ls j).cost)

-- a release at r is ahead of the offset a where r + 100,000 is at most a + lead: so many of 0, T, 2T, .. are
abbrev pub lane_limit : Lane → ℕ → ℕ
lane_limit l a = cond (nat_lt (a + l.lead) 100000) 0 ((a + l.lead - 100000) / l.period + 1)

abbrev pub limited : ℕ → Lane → Lane
limited a l = record l { limit = lane_limit l a }

-- the greatest C - 1 of the lanes whose release at -1 is behind the offset a
abbrev pub lanes_block : List Lane → ℕ → ℕ
lanes_block ls a = max_below (length ls) (λ j. cond (nat_lt (a + (lane_at ls j).lead + 1) 100000) ((lane_at ls j).cost - 1) 0)
