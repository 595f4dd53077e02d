use Rattle.std.proofs.Common.{◌≡◌, List, ◌++◌}
use Rattle.table.specs.Model.{content}
use Rattle.theory.specs.Course.{releases_below}
use Rattle.theory.specs.Machine.{Call}
use Rattle.dispatch.specs.Represents.{Answered}
use Rattle.rehearsal.proofs.playing.Playing.release_told.Given as goal

abbrev pub invariant-loop-task : goal.invariant-loop-task
invariant-loop-task g l =
    let at = l.initial.self in
    let s = content at.table.now in
    let o = g.P.Policy.meaning at.run.policy s in
    (l.self.run.policy ≡ at.run.policy)
    × (l.self.table.now ≡ at.table.now)
    × (l.self.course.now ≡ at.course.now)
    × ((calls : List Call) → Answered o at.run.station calls → Answered o l.self.run.station (calls ++ releases_below s o at.course.now.task at.course.now.offset l.initial.time l.task))
