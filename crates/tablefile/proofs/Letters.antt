-- The letters of a name, along a loop.
use Rattle.std.proofs.Common.{◌≡◌, ℕ, suc, ◌+◌, ◌-◌, ◌<◌, List, [], ◌∷◌, ◌++◌, length, take, drop, Ok, Err, sym, refl, ap, ◌∙◌, append_assoc, add_assoc, arith, length-drop, get_or-drop}
use Rattle.std.proofs.lemmas.List.{take_more}
use Rattle.table.specs.Sporadic.{name_byte}
use Rattle.table.specs.declared.refusal.Refusal.{Refusal}
use Rattle.table.specs.declared.refusal.Refusal.TheVariants.{NameByte}
use Rattle.tablefile.specs.Fields.{Read, ◌then◌, letter_at, letters_at}
use Rattle.tablefile.proofs.Inversion.{tested_byte}

-- of so many letters at p, the first i are read
abbrev pub SoFar : List ℕ → ℕ → ℕ → ℕ → Type 0
SoFar s p len i = letters_at s p len ≡ (letters_at s (p + i) (len - i) then λ bs. Ok (take i (drop p s) ++ bs))

regroup : (r : Read (List ℕ)) (xs : List ℕ) (b : ℕ) → ((r then λ bs. Ok (b ∷ bs)) then λ bs. Ok (xs ++ bs)) ≡ (r then λ bs. Ok ((xs ++ b ∷ []) ++ bs))
regroup (Ok bs) xs b = ap Ok (sym (append_assoc xs (b ∷ []) bs))
regroup (Err why) xs b = refl

module _ (s : List ℕ) (p len : ℕ) where
  pub more : (i b : ℕ) → i < len → Ok b ≡ letter_at s (p + i) → SoFar s p len i → SoFar s p len (i + 1)
  more i b lt read so =
      let back : len - i ≡ suc (len - (i + 1)) = omega arith in
      let at = tested_byte s (p + i) name_byte (NameByte (p + i)) (sym read) in
      let long : i < length (drop p s) = omega (arith, length-drop p s, at.0) in
      let front : take (i + 1) (drop p s) ≡ take i (drop p s) ++ b ∷ [] = take_more (drop p s) i 0 long ∙ ap (λ x. take i (drop p s) ++ x ∷ []) (get_or-drop p s i 0 ∙ at.1) in
      so
      ∙ ap (λ k. letters_at s (p + i) k then λ bs. Ok (take i (drop p s) ++ bs)) back
      ∙ ap (λ r. (r then λ x. letters_at s (p + i + 1) (len - (i + 1)) then λ bs. Ok (x ∷ bs)) then λ bs. Ok (take i (drop p s) ++ bs)) (sym read)
      ∙ regroup (letters_at s (p + i + 1) (len - (i + 1))) (take i (drop p s)) b
      ∙ (λ j. letters_at s (add_assoc p i 1 j) (len - (i + 1)) then λ bs. Ok (sym front j ++ bs))

  -- a letter is refused
  pub stops : (i : ℕ) (why : Refusal) → i < len → Err why ≡ letter_at s (p + i) → SoFar s p len i → letters_at s p len ≡ Err why
  stops i why lt bad so =
      let back : len - i ≡ suc (len - (i + 1)) = omega arith in
      so
      ∙ ap (λ k. letters_at s (p + i) k then λ bs. Ok (take i (drop p s) ++ bs)) back
      ∙ ap (λ r. (r then λ x. letters_at s (p + i + 1) (len - (i + 1)) then λ bs. Ok (x ∷ bs)) then λ bs. Ok (take i (drop p s) ++ bs)) (sym bad)
