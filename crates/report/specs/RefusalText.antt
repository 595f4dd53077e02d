-- The line that tells a refusal: "refused", its number, and its place in the input, or "-" where it has none.
use Rattle.std.specs.Prelude.{ℕ, List, [], ◌∷◌, Some, None, codes, decimal, Option}
use Rattle.table.specs.Refusals.{refusal_number, refusal_place}
use Rattle.table.specs.declared.refusal.Refusal.{Refusal}
use Rattle.report.specs.Text.{line}

abbrev pub place_word : Option ℕ → List ℕ
place_word None = codes "-"
place_word (Some place) = decimal place

abbrev pub refusal_text : Refusal → List ℕ
refusal_text refusal = line (codes "refused" ∷ decimal (refusal_number refusal) ∷ place_word (refusal_place refusal) ∷ [])

-- no such line is longer
abbrev pub refusal_bytes : ℕ
refusal_bytes = 32
