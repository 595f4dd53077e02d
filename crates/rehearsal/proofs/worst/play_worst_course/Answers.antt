use Rattle.std.proofs.Common.{None, Ok, subst}
use Rattle.table.specs.Model.{content}
use Rattle.table.proofs.Tables.{table_checked}
use Rattle.policy.proofs.Lawfulness.{table_laws}
use Rattle.rehearsal.specs.ToPlay.{ToPlay}
use Rattle.rehearsal.proofs.Promise.{as_promised, holds_in_runs, exact_none, exact_along}
use Rattle.rehearsal.proofs.worst.play_worst_course.Goals as goal

pub returns-in_err-course-clause-guaranteed : goal.returns-in_err-course-clause-guaranteed
returns-in_err-course-clause-guaranteed g c =
    let s = content c.args.table.now in
    let p = c.args.policy in
    let o = g.P.Policy.meaning p s in
    let met = g.met.P.Policy in
    let checked = table_checked c.args.table.now in
    let laws = table_laws g.P.Policy.meaning met.total met.transitive met.earlier met.range met.rule p c.args.table.now in
    holds_in_runs s o checked laws

pub returns-in_default : goal.returns-in_default
returns-in_default g c =
    let s = content c.args.table.now in
    let p = c.args.policy in
    let o = g.P.Policy.meaning p s in
    let met = g.met.P.Policy in
    let checked = table_checked c.args.table.now in
    let laws = table_laws g.P.Policy.meaning met.total met.transitive met.earlier met.range met.rule p c.args.table.now in
    let exact = exact_none s o c.args.task c.args.row (subst (λ q. ToPlay s o c.args.task c.args.row (Ok q)) c.in_default.is c.in_ok-course.ensures) in
    record { exact = exact; promised = as_promised s o checked laws c.args.task c.args.row (Ok None) exact; guaranteed = holds_in_runs s o checked laws }

pub returns : goal.returns
returns g c =
    let s = content c.args.table.now in
    let p = c.args.policy in
    let o = g.P.Policy.meaning p s in
    let met = g.met.P.Policy in
    let checked = table_checked c.args.table.now in
    let laws = table_laws g.P.Policy.meaning met.total met.transitive met.earlier met.range met.rule p c.args.table.now in
    let found = subst (λ q. ToPlay s o c.args.task c.args.row (Ok q)) c.in-Some.is c.in_ok-course.ensures in
    let exact = exact_along s o c.args.task c.args.row c.in-Some.course c.in-Some.end found c.play.result c.play.ensures in
    record { exact = exact; promised = as_promised s o checked laws c.args.task c.args.row (Ok c.play.result) exact; guaranteed = holds_in_runs s o checked laws }
