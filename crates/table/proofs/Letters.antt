-- The letters of a name are text.
use Rattle.std.proofs.Common.{◌≡◌, ℕ, zero, suc, ◌<◌, true, List, [], ◌∷◌, length, arith}
use Rattle.std.proofs.lemmas.Bool.Decides.{nat_tests}
use Rattle.std.proofs.lemmas.Str.{IsUtf8-from_ascii}
use Rattle.std.proofs.lemmas.Str.Ascii.{IsAscii-nil}
use Rattle.std.specs.Str.{IsAscii, IsUtf8}
use Rattle.table.specs.Sporadic.{every, name_byte, name_in_range, within}
use Rattle.table.proofs.Every.{and_left, and_right}

pub name_byte_ascii : (b : ℕ) → name_byte b ≡ true → b < 128
name_byte_ascii b e = grind (arith, nat_tests)

pub letters_ascii : (bs : List ℕ) → every name_byte bs ≡ true → IsAscii bs
letters_ascii [] e i = IsAscii-nil i
letters_ascii (b ∷ bs) e zero = name_byte_ascii b (and_left (name_byte b) (every name_byte bs) e)
letters_ascii (b ∷ bs) e (suc i) = letters_ascii bs (and_right (name_byte b) (every name_byte bs) e) i

pub name_is_text : (bs : List ℕ) → name_in_range bs ≡ true → IsUtf8 bs
name_is_text bs e = IsUtf8-from_ascii bs (letters_ascii bs (and_right (within 1 8 (length bs)) (every name_byte bs) e))
