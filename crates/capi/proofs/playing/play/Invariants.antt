use Rattle.std.proofs.Common.{◌≡◌, take}
use Rattle.table.specs.Model.{content}
use Rattle.dispatch.specs.Represents.{Answered}
use Rattle.capi.specs.Played.{calls_of}
use Rattle.capi.proofs.Plays.{SoFar}
use Rattle.capi.proofs.playing.play.Given as goal

abbrev pub invariant-loop-step : goal.invariant-loop-step
invariant-loop-step g l =
    (l.run.policy ≡ l.initial.run.policy)
    × (l.run.station.table ≡ l.initial.run.station.table)
    × Answered (g.P.Policy.meaning l.initial.run.policy (content l.initial.run.station.table)) l.run.station (calls_of (take l.step-index l.initial.steps))
    × SoFar (content l.initial.run.station.table) (g.P.Policy.meaning l.initial.run.policy (content l.initial.run.station.table)) l.initial.steps l.steps l.step-index
