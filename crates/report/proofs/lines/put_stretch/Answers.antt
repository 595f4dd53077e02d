use Rattle.report.proofs.Pages.{then}
use Rattle.report.proofs.lines.put_stretch.Goals as goal

pub returns : goal.returns
returns c = then c.word.ensures c.number.ensures
