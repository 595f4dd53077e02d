use Rattle.std.proofs.Common.{◌<◌, length, refl, arith, rules}
use Rattle.dispatch.proofs.Stations.{in_room, written_here, written_others}
use Rattle.dispatch.proofs.station.Station.put.Goals as goal

pub offset_bounds-self-task : goal.offset_bounds-self-task
offset_bounds-self-task c = let few = in_room c.args.self.now c.args.task c.requires in search rules

pub listed : goal.listed
listed c = omega (arith, in_room c.args.self.now c.args.task c.requires, c.args.self.now.room)

pub bounds-self-task : goal.bounds-self-task
bounds-self-task c = in_room c.args.self.now c.args.task c.requires

pub returns : goal.returns
returns c =
    let d = c.args.self.now in
    let inside : c.args.task < length d.lines = omega (arith, in_room d c.args.task c.requires, d.room) in
    record { here = written_here d.lines c.args.task c.args.line inside; others = written_others d.lines c.args.task c.args.line; table = refl; time = refl; stage = refl }
