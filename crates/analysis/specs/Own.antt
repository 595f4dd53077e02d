-- The analysed task's own part: the work that its window begins with, and the response that a least solution gives.
use Rattle.std.specs.Prelude.{◌≡◌, ℕ, ◌+◌, ◌-◌, ◌*◌, ◌/◌, ◌≤◌, max, List, map}
use Rattle.table.specs.declared.kinds.Mode.{Mode}
use Rattle.table.specs.declared.kinds.Mode.TheVariants.{NonPreemptive, Preemptive}
use Rattle.theory.specs.LeastSolution.{LeastSolution}
use Rattle.analysis.specs.Lanes.{limited, lanes_work, lanes_block}
use Rattle.analysis.specs.declared.lanes.Lane.{Lane}
use Rattle.analysis.specs.declared.window.Own.{Own}

-- without preemption the window is counted from one tick earlier, so that a release at its end counts: its start is the solution less 1
abbrev pub work_in : Mode → ℕ → ℕ → List Lane → ℕ → ℕ
work_in Preemptive cost period ls a = (1 + a / period) * cost
work_in NonPreemptive cost period ls a = 1 + (lanes_block ls a + a / period * cost)

abbrev pub response_in : Mode → ℕ → ℕ → ℕ → ℕ
response_in Preemptive cost a t = max cost (t - a)
response_in NonPreemptive cost a t = max cost (t - 1 + cost - a)

abbrev pub own_work : Own → List Lane → ℕ → ℕ
own_work w ls a = work_in w.mode w.cost w.period ls a

-- the work of a window at offset a, of t ticks
abbrev pub window_work : Own → List Lane → ℕ → ℕ → ℕ
window_work w ls a t = own_work w ls a + lanes_work (map (limited a) ls) t

-- the response at offset a is r, by a solution of at most `busy`
abbrev pub LaneResponse : Own → List Lane → ℕ → ℕ → ℕ → Type 0
LaneResponse w ls busy a r = (t : ℕ) × (t ≤ busy) × LeastSolution 1 (window_work w ls a) t × (r ≡ response_in w.mode w.cost a t)
