use Rattle.std.proofs.Common.{refl}
use Rattle.report.proofs.Pastes.{joined, appended}
use Rattle.report.proofs.page.Page.word.Goals as goal

pub returns : goal.returns
returns c = record { same_output = refl; appended = joined (appended c.put_bytes.ensures) (appended c.put_bytes-2.ensures) }
