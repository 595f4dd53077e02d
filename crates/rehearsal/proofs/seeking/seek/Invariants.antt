use Rattle.std.proofs.Common.{◌≡◌}
use Rattle.table.specs.Model.{content}
use Rattle.rehearsal.proofs.Firsts.{CleanTo}
use Rattle.rehearsal.proofs.seeking.seek.Given as goal

abbrev pub invariant-loop-time : goal.invariant-loop-time
invariant-loop-time g l =
    (l.playing.run.policy ≡ l.initial.playing.run.policy)
    × (l.playing.table.now ≡ l.initial.table)
    × (l.playing.course.now ≡ l.initial.course)
    × CleanTo (content l.initial.table) (g.P.Policy.meaning l.initial.playing.run.policy (content l.initial.table)) l.initial.course.task l.initial.course.offset l.time l.playing.run.station
