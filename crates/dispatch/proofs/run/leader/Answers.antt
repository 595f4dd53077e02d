use Rattle.std.proofs.Common.{◌≡◌, ◌+◌, ◌<◌, Some, None, sym, ap, ◌∙◌, subst, arith, rules}
use Rattle.table.specs.Model.{content}
use Rattle.table.specs.Rules.{task_count}
use Rattle.policy.specs.Answers.{ahead_answer}
use Rattle.policy.proofs.Lawfulness.{table_laws}
use Rattle.dispatch.specs.Leading.{Leading, better_of, first_release}
use Rattle.dispatch.specs.Lines.{board}
use Rattle.dispatch.proofs.Ahead.{leading_more}
use Rattle.dispatch.proofs.Stations.{in_room}
use Rattle.dispatch.proofs.run.leader.Goals as goal

pub overflow_add-next : goal.overflow_add-next
overflow_add-next g c = let few : c.in_ok-first.first.task < 24 = in_room c.args.station.now c.in_ok-first.first.task c.in_ok-first.ensures.0 in search rules

-- the first that waits leads all up to its task
pub loop-task-init : goal.loop-task-init
loop-task-init g c =
    let d = c.args.station.now in
    let p = c.args.policy.now in
    let s = content d.table in
    let o = g.P.Policy.meaning p s in
    let met = g.met.P.Policy in
    let laws = table_laws g.P.Policy.meaning met.total met.transitive met.earlier met.range met.rule p d.table in
    let first = c.in_ok-first.first in
    let found = c.in_ok-first.ensures in
    subst (λ f. Leading (ahead_answer s o) (board d.lines) (first.task + 1) (better_of (ahead_answer s o) None first.task f)) found.1 (leading_more s o laws (board d.lines) first.task None found.2)

pub loop-task-preserved : goal.loop-task-preserved
loop-task-preserved g c =
    let d = c.args.station.now in
    let p = c.args.policy.now in
    let s = content d.table in
    let o = g.P.Policy.meaning p s in
    let met = g.met.P.Policy in
    let laws = table_laws g.P.Policy.meaning met.total met.transitive met.earlier met.range met.rule p d.table in
    let best = c.loop-task.best in
    let task = c.loop-task.task in
    let is : Some c.better-best.result ≡ better_of (ahead_answer s o) (Some best) task (first_release (board d.lines task).waiting) = c.better-best.ensures ∙ ap (λ t. better_of (ahead_answer (content t) (g.P.Policy.meaning p (content t))) (Some best) task c.first.result) c.table-table.ensures ∙ ap (λ f. better_of (ahead_answer s o) (Some best) task f) c.first.ensures in
    subst (λ r. Leading (ahead_answer s o) (board d.lines) (task + 1) r) (sym is) (leading_more s o laws (board d.lines) task (Some best) c.loop-task.invariant)

pub returns : goal.returns
returns g c =
    let d = c.args.station.now in
    let p = c.args.policy.now in
    let s = content d.table in
    let o = g.P.Policy.meaning p s in
    let count : c.count-task-end.result ≡ task_count s = c.count-task-end.ensures ∙ ap (λ t. task_count (content t)) c.table-table.ensures in
    let all : c.loop-task.task ≡ task_count s = omega (arith, c.in_ok-first.ensures.0) in
    subst (λ n. Leading (ahead_answer s o) (board d.lines) n (Some c.loop-task.best)) all c.loop-task.invariant
