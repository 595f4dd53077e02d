use Rattle.std.proofs.Common.{rules, tests}
use Rattle.policy.proofs.compare.comparable.Goals as goal

pub returns-else-timed : goal.returns-else-timed
returns-else-timed c = search (rules, tests)
