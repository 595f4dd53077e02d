-- The word for a verdict, as a program prints it.
use Rattle.std.specs.Prelude.{ℕ, List, codes}
use Rattle.analysis.specs.declared.rows.Verdict.{Verdict}
use Rattle.analysis.specs.declared.rows.Verdict.TheVariants.{Admitted, Late}

abbrev pub verdict_text : Verdict → List ℕ
verdict_text Admitted = codes "admitted"
verdict_text (Late k) = codes "late"
