use Rattle.std.proofs.Common.{refl, ap}
use Rattle.theory.specs.Machine.{play}
use Rattle.dispatch.specs.Represents.{ran_first}
use Rattle.dispatch.specs.Summaries.{Summary, summed}
use Rattle.dispatch.proofs.Stations.{boards_none}
use Rattle.dispatch.proofs.station.Station.new.Goals as goal

pub returns : goal.returns
unfolding play summed
returns c =
    let none = boards_none 24 c.new.result c.new.ensures in
    record { table = refl; answered = λ o. record { time = refl; lines = λ j h. none j; stage = λ m j h. ap (λ (u : Summary). ran_first u.waiting) (none j) } }
