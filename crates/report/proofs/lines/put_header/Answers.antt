use Rattle.std.proofs.Common.{decimal, ap, ◌∙◌}
use Rattle.table.specs.Model.{content}
use Rattle.table.specs.Rules.{task_count}
use Rattle.table.specs.Words.{mode_word, policy_word}
use Rattle.report.proofs.Pages.{then, reworded}
use Rattle.report.proofs.lines.put_header.Goals as goal

pub returns : goal.returns
returns c =
    let s = content c.args.table.now in
    then (reworded 32 (policy_word s.policy) (c.word.ensures ∙ ap policy_word c.policy.ensures) c.word-2.ensures)
    (then (reworded 32 (mode_word s.mode) (c.word-3.ensures ∙ ap mode_word c.mode.ensures) c.word-4.ensures)
    (then c.word-5.ensures (reworded 10 (decimal (task_count s)) (ap decimal c.count.ensures) c.number.ensures)))
