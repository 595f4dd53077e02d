use Rattle.std.proofs.Common.{◌≡◌, ◌+◌, ◌<◌, ◌≤◌, length, sym, ap, ◌∙◌, arith}
use Rattle.table.specs.Model.{content}
use Rattle.table.specs.Rules.{task_count}
use Rattle.theory.specs.Machine.{Looked}
use Rattle.dispatch.specs.Lines.{board, line_summary}
use Rattle.dispatch.specs.Replies.{counts_told}
use Rattle.dispatch.specs.declared.line.Line.{Line}
use Rattle.dispatch.specs.declared.replies.Counts.{Counts}
use Rattle.dispatch.proofs.Queues.{line_long}
use Rattle.dispatch.specs.Summaries.{counts_of}
use Rattle.dispatch.proofs.Ties.{look_unknown, look_known}
use Rattle.dispatch.proofs.station.Station.look.Goals as goal

-- the counts of a line are those of its summary
counted : (r : Counts) (l : Line) → r.accepted ≡ l.finished + l.len → r.finished ≡ l.finished → r.waiting ≡ l.len → r.missed ≡ l.missed → r.longest ≡ l.longest → counts_told r ≡ counts_of (line_summary l)
counted r l accepted finished waiting missed longest =
    let all : r.accepted ≡ l.finished + length (line_summary l).waiting = accepted ∙ ap (λ n. l.finished + n) (sym (line_long l)) in
    let some : r.waiting ≡ length (line_summary l).waiting = waiting ∙ sym (line_long l) in
    λ k. record { accepted = all k; finished = finished k; waiting = some k; missed = missed k; longest = longest k }

pub returns-then-task-count : goal.returns-then-task-count
returns-then-task-count c = λ o calls rep.
    let d = c.args.self.now in
    let far : task_count (content d.table) ≤ c.args.task = omega (arith, c.count.ensures, c.if-task-count.true) in
    let n = look_unknown (content d.table) o calls d.time (board d.lines) d.stage rep c.args.task far in
    (n.stands, n.tells)

pub returns : goal.returns
returns c = λ o calls rep.
    let d = c.args.self.now in
    let known : c.args.task < task_count (content d.table) = omega (arith, c.count.ensures, c.if-task-count.false) in
    let e = c.counts.ensures in
    let n = look_known (content d.table) o calls d.time (board d.lines) d.stage rep c.args.task known in
    (n.stands, ap Looked (counted c.counts.result c.line.result e.accepted e.finished e.waiting e.missed e.longest ∙ ap counts_of c.line.ensures) ∙ n.tells)
