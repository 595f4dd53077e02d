use Rattle.std.proofs.Common.{length}
use Rattle.table.specs.Model.{content}
use Rattle.report.specs.Text.{task_lines}
use Rattle.report.specs.Written.{Written}
use Rattle.report.proofs.lines.put_rows.Given as goal

abbrev pub invariant-loop-number : goal.invariant-loop-number
invariant-loop-number l = Written l.initial.page (task_lines (content l.table) l.rows (length l.yielded)) l.page
