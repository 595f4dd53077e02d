-- The busy period as a call answers it, and the lanes that count every release.
use Rattle.std.specs.Prelude.{◌≡◌, ℕ, ◌≤◌, Some, None, Option}
use Rattle.table.specs.Rules.{TaskSet}
use Rattle.table.specs.Sporadic.{Sporadic}
use Rattle.theory.specs.BusyPeriod.{BusyPeriod, Overloaded, longest_busy_period}
use Rattle.analysis.specs.declared.lanes.Lane.{Lane}

abbrev pub FullLane : Sporadic → Lane → Type 0
FullLane t l = (l.cost ≡ t.cost) × (l.period ≡ t.period) × (l.lead ≡ 0) × (l.limit ≡ 70000)

-- the busy period, or that there is none of up to 60,000 ticks
abbrev pub Busy : TaskSet → Option ℕ → Type 0
Busy s None = Overloaded s
Busy s (Some L) = (L ≤ longest_busy_period) × BusyPeriod s L
