use Rattle.report.specs.Text.{report_text, verdict_word}
use Rattle.report.proofs.Pages.{then, reworded}
use Rattle.report.proofs.lines.put_report.Goals as goal

pub returns : goal.returns
unfolding report_text
returns c = then (then (then c.put_header.ensures c.put_stretch.ensures) c.put_rows.ensures) (reworded 10 (verdict_word c.args.judgement.now.verdict) c.verdict_word.ensures c.word.ensures)
