use Rattle.std.proofs.Common.{arith, rules}
use Rattle.dispatch.proofs.Stations.{in_room, read_is}
use Rattle.dispatch.proofs.station.Station.line.Goals as goal

pub offset_bounds-self-task : goal.offset_bounds-self-task
offset_bounds-self-task c = let few = in_room c.args.self.now c.args.task c.requires in search rules

pub listed : goal.listed
listed c = omega (arith, in_room c.args.self.now c.args.task c.requires, c.args.self.now.room)

pub bounds-self-task : goal.bounds-self-task
bounds-self-task c = in_room c.args.self.now c.args.task c.requires

pub returns : goal.returns
returns c =
    let d = c.args.self.now in
    read_is d.lines c.args.task c.index-self-task.result (omega (arith, in_room d c.args.task c.requires, d.room))
