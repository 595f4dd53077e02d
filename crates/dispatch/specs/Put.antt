-- A line of a station is written, and nothing else.
use Rattle.std.specs.Prelude.{◌≡◌, ℕ, ◌≢◌}
use Rattle.dispatch.specs.Lines.{board}
use Rattle.dispatch.specs.Summaries.{Summary}
use Rattle.dispatch.specs.declared.station.Station.{Station}

-- from d to e, the line of task j now says u
pub record Put (d e : Station) (j : ℕ) (u : Summary) : Type 0 where
  pub here : board e.lines j ≡ u
  pub others : (k : ℕ) → (k ≢ j) → board e.lines k ≡ board d.lines k
  pub table : e.table ≡ d.table
  pub time : e.time ≡ d.time
  pub stage : e.stage ≡ d.stage
