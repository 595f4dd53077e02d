use Rattle.std.proofs.Common.{◌≡◌}
use Rattle.table.specs.Model.{content}
use Rattle.rehearsal.proofs.Lines.{DrawnTo}
use Rattle.rehearsal.proofs.drawing.draw.Given as goal

abbrev pub invariant-loop-at : goal.invariant-loop-at
invariant-loop-at g l =
    (l.playing.run.policy ≡ l.initial.playing.run.policy)
    × (l.playing.table.now ≡ l.initial.table)
    × (l.playing.course.now ≡ l.initial.course)
    × DrawnTo (content l.initial.table) (g.P.Policy.meaning l.initial.playing.run.policy (content l.initial.table)) l.initial.course.task l.initial.course.offset l.initial.job l.at l.playing.run.station l.marks
