-- A field that was read tells which bytes stand at its place, and these bytes give the field.
use Rattle.std.proofs.Common.{◌≡◌, ℕ, zero, suc, ◌+◌, ◌*◌, ◌/◌, ◌%◌, ◌<◌, Bool, true, ltb, List, [], ◌∷◌, ◌++◌, length, get_or, drop, Ok, Err, sym, refl, ap, ◌∙◌, subst, add-zero, div-add-mod', arith, length-drop}
use Rattle.std.proofs.lemmas.List.{drop_more}
use Rattle.std.proofs.lemmas.Nat.{div-mul-add, mod-mul-add}
use Rattle.std.proofs.lemmas.Bool.{lt-ltb, cond-true}
use Rattle.table.proofs.Every.{and_true, and_left, and_right}
use Rattle.table.specs.Sporadic.{every, name_byte}
use Rattle.table.specs.declared.refusal.Refusal.{Refusal}
use Rattle.table.specs.declared.refusal.Refusal.TheVariants.{Ended, NameByte}
use Rattle.tablefile.specs.Fields.{Read, ◌then◌, tested, byte_at, number_at, letter_at, letters_at}
use Rattle.tablefile.proofs.Inversion.{same_value, then_ok, tested_byte}

-- a field that passes its test
pub pass : (r : Read ℕ) (test : ℕ → Bool) (why : Refusal) (x : ℕ) → r ≡ Ok x → test x ≡ true → (r then λ y. tested (test y) why y) ≡ Ok x
pass r test why x e good = ap (λ f. f then λ y. tested (test y) why y) e ∙ cond-true (test x) (Ok x) (Err why) good

module _ (s : List ℕ) where
  -- what a list from p on begins with
  pub first_is : (p b : ℕ) (rest : List ℕ) → drop p s ≡ b ∷ rest → (p < length s) × (get_or s p 0 ≡ b) × (drop (p + 1) s ≡ rest)
  first_is p b rest h =
      let lt : p < length s = omega (arith, sym (length-drop p s) ∙ ap length h) in
      let e : (get_or s p 0 ∷ drop (p + 1) s) ≡ (b ∷ rest) = sym (drop_more s p 0 lt) ∙ h in
      (lt, cc, cc)

  pub byte_here : (p q : ℕ) {b : ℕ} → p + 1 ≡ q → (p < length s) → (get_or s p 0 ≡ b) → drop p s ≡ b ∷ drop q s
  byte_here p q next lt e = drop_more s p 0 lt ∙ (λ i. e i ∷ drop (next i) s)

  pub byte_back : (p b : ℕ) (rest : List ℕ) → drop p s ≡ b ∷ rest → byte_at s p ≡ Ok b
  byte_back p b rest h =
      let f = first_is p b rest h in
      cond-true (ltb p (length s)) (Ok (get_or s p 0)) (Err (Ended (length s))) (lt-ltb p (length s) f.0) ∙ ap Ok f.1

  pub number_back : (p v : ℕ) (rest : List ℕ) → drop p s ≡ v / 256 ∷ v % 256 ∷ rest → number_at s p ≡ Ok v
  number_back p v rest h =
      let f = first_is p (v / 256) (v % 256 ∷ rest) h in
      let g = first_is (p + 1) (v % 256) rest f.2 in
      cond-true (ltb (p + 1) (length s)) (Ok (get_or s p 0 * 256 + get_or s (p + 1) 0)) (Err (Ended (length s))) (lt-ltb (p + 1) (length s) g.0)
      ∙ ap Ok ((λ i. f.1 i * 256 + g.1 i) ∙ div-add-mod' v 256)

  pub letters_back : (name : List ℕ) (p : ℕ) (rest : List ℕ) → drop p s ≡ name ++ rest → every name_byte name ≡ true → letters_at s p (length name) ≡ Ok name
  letters_back [] p rest h good = refl
  letters_back (b ∷ bs) p rest h good =
      let read = pass (byte_at s p) name_byte (NameByte p) b (byte_back p b (bs ++ rest) h) (and_left (name_byte b) (every name_byte bs) good) in
      let more = letters_back bs (p + 1) rest (first_is p b (bs ++ rest) h).2 (and_right (name_byte b) (every name_byte bs) good) in
      ap (λ r. r then λ x. letters_at s (p + 1) (length bs) then λ xs. Ok (x ∷ xs)) read ∙ ap (λ r. r then λ xs. Ok (b ∷ xs)) more

  module _ (fit : (i : ℕ) → get_or s i 0 < 256) where
    pub number_here : (p q : ℕ) {v : ℕ} → p + 2 ≡ q → (p + 1 < length s) → (get_or s p 0 * 256 + get_or s (p + 1) 0 ≡ v) → drop p s ≡ v / 256 ∷ v % 256 ∷ drop q s
    number_here p q {v} next lt e =
        let a = get_or s p 0 in
        let b = get_or s (p + 1) 0 in
        let high : a ≡ v / 256 = sym (div-mul-add a 256 b (fit (p + 1))) ∙ ap (λ x. x / 256) e in
        let low : b ≡ v % 256 = sym (mod-mul-add a 256 b (fit (p + 1))) ∙ ap (λ x. x % 256) e in
        byte_here p (p + 1) refl (omega arith) high
        ∙ ap (λ xs. v / 256 ∷ xs) (byte_here (p + 1) q (omega arith) lt low)

-- these letters stand at p
abbrev LettersHere : List ℕ → ℕ → ℕ → List ℕ → Type 0
LettersHere s p k name = (length name ≡ k) × (every name_byte name ≡ true) × (drop p s ≡ name ++ drop (p + k) s)

pub letters_here : (s : List ℕ) (k p : ℕ) {name : List ℕ} → letters_at s p k ≡ Ok name → LettersHere s p k name
letters_here s zero p h = subst (LettersHere s p 0) (same_value h) (refl, refl, sym (ap (λ q. drop q s) (add-zero p)))
letters_here s (suc k) p h =
    let one = then_ok (letter_at s p) (λ b. letters_at s (p + 1) k then λ bs. Ok (b ∷ bs)) h in
    let two = then_ok (letters_at s (p + 1) k) (λ bs. Ok (one.0 ∷ bs)) one.2 in
    let first = tested_byte s p name_byte (NameByte p) one.1 in
    let more = letters_here s k (p + 1) two.1 in
    let same : p + 1 + k ≡ p + suc k = omega arith in
    subst (LettersHere s p (suc k)) (same_value two.2) (
      ap suc more.0,
      and_true (name_byte one.0) (every name_byte two.0) first.2 more.1,
      byte_here s p (p + 1) refl first.0 first.1 ∙ ap (λ xs. one.0 ∷ xs) (more.2 ∙ ap (λ q. two.0 ++ drop q s) same),
    )
