use Rattle.std.proofs.Common.{None, Ok, subst}
use Rattle.table.specs.Model.{content}
use Rattle.table.proofs.Tables.{table_checked}
use Rattle.policy.proofs.Lawfulness.{table_laws}
use Rattle.rehearsal.specs.ToPlay.{ToPlay}
use Rattle.rehearsal.proofs.LateCourses.{late_seen}
use Rattle.rehearsal.proofs.Firsts.{sought_none, sought_along}
use Rattle.rehearsal.proofs.misses.first_miss.Goals as goal

pub returns-in_default : goal.returns-in_default
returns-in_default g c =
    let s = content c.args.table.now in
    let p = c.args.policy in
    let o = g.P.Policy.meaning p s in
    let met = g.met.P.Policy in
    let checked = table_checked c.args.table.now in
    let laws = table_laws g.P.Policy.meaning met.total met.transitive met.earlier met.range met.rule p c.args.table.now in
    let sought = sought_none s o c.args.task c.args.row (subst (λ q. ToPlay s o c.args.task c.args.row (Ok q)) c.in_default.is c.in_ok-course.ensures) in
    record { sought = sought; late = late_seen s o checked laws c.args.task c.args.row (Ok None) sought }

pub returns : goal.returns
returns g c =
    let s = content c.args.table.now in
    let p = c.args.policy in
    let o = g.P.Policy.meaning p s in
    let met = g.met.P.Policy in
    let checked = table_checked c.args.table.now in
    let laws = table_laws g.P.Policy.meaning met.total met.transitive met.earlier met.range met.rule p c.args.table.now in
    let found = subst (λ q. ToPlay s o c.args.task c.args.row (Ok q)) c.in-Some.is c.in_ok-course.ensures in
    let sought = sought_along s o checked laws c.args.task c.args.row c.in-Some.course c.in-Some.end found c.min.result c.min.ensures c.seek.result c.seek.ensures in
    record { sought = sought; late = late_seen s o checked laws c.args.task c.args.row (Ok c.seek.result) sought }
