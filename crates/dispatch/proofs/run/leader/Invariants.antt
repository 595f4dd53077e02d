use Rattle.std.proofs.Common.{Some}
use Rattle.table.specs.Model.{content}
use Rattle.policy.specs.Answers.{ahead_answer}
use Rattle.dispatch.specs.Leading.{Leading}
use Rattle.dispatch.specs.Lines.{board}
use Rattle.dispatch.proofs.run.leader.Given as goal

abbrev pub invariant-loop-task : goal.invariant-loop-task
invariant-loop-task g l = Leading (ahead_answer (content l.station.table) (g.P.Policy.meaning l.policy (content l.station.table))) (board l.station.lines) l.task (Some l.best)
