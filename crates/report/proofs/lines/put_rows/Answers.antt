use Rattle.std.proofs.Common.{length-append}
use Rattle.std.proofs.lemmas.Iterator.{YieldsList-from_slice, YieldsList-from_zip}
use Rattle.std.proofs.lemmas.Iterator.Consumers.{YieldsList-from_enumerate, YieldsList-turn}
use Rattle.table.specs.Model.{content}
use Rattle.report.specs.Text.{task_lines}
use Rattle.report.proofs.Pages.{blank}
use Rattle.report.proofs.TaskLines.{next_line}
use Rattle.report.proofs.lines.put_rows.Goals as goal

pub loop-number-init : goal.loop-number-init
unfolding task_lines
loop-number-init c = blank _

pub loop-number-preserved : goal.loop-number-preserved
loop-number-preserved c =
    let ts = c.tasks.result.now in
    let rows = c.args.rows.now in
    let turn = YieldsList-turn (YieldsList-from_enumerate (YieldsList-from_zip (YieldsList-from_slice ts cc) (YieldsList-from_slice rows cc)) cc) c.loop-number.yielded c.loop-number.number-iterator c.loop-number.yielded_by _ c.next.new.self _ c.in-Some.is c.next.ensures.steps in
    rw length-append (next_line (content c.args.table.now) ts c.tasks.ensures rows _ _ _ _ turn.0 turn.1 c.loop-number.invariant c.put_row.ensures)
