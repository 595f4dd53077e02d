use Rattle.std.proofs.Common.{rules}
use Rattle.table.specs.Model.{content}
use Rattle.table.proofs.Tables.{table_checked}
use Rattle.policy.specs.Laws.{Lawful}
use Rattle.policy.proofs.Lawfulness.{table_laws}
use Rattle.report.proofs.Pages.{settled}
use Rattle.report.proofs.Prints.{printed, printed_short}
use Rattle.report.proofs.whole.report.Goals as goal

pub returns : goal.returns
returns g c =
    let t = c.args.table.now in
    let p = c.args.policy.now in
    let s = content t in
    let o = g.P.Policy.meaning p s in
    let met = g.met.P.Policy in
    let checked = table_checked t in
    let law : Lawful s o = table_laws g.P.Policy.meaning met.total met.transitive met.earlier met.range met.rule p t in
    let done = printed s o c.args.rows.now c.judge.new.rows c.in_ok-judgement.judgement checked law c.in_ok-judgement.ensures.judged c.if-out-lt-OUTPUT_BYTES.false (settled c.put_report.ensures (search rules) (search rules) (search rules) c.written.ensures) in
    record {
      reported = done;
      short = printed_short checked law done;
    }
