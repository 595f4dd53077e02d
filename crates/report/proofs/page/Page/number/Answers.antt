use Rattle.std.proofs.Common.{refl, arith}
use Rattle.report.proofs.Pastes.{joined, appended, counted}
use Rattle.report.proofs.page.Page.number.Goals as goal

pub returns : goal.returns
returns c = record { same_output = refl; appended = joined (counted (omega arith) (appended c.put_number.ensures)) (appended c.put_bytes.ensures) }
