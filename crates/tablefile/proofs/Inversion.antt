-- What a field that was read tells: where its value came from, and that it passed its test.
use Rattle.std.proofs.Common.{◌≡◌, ℕ, ◌+◌, ◌*◌, ◌<◌, Bool, true, false, cond, ltb, List, length, get_or, Some, None, Ok, Err, Option, sym, refl, ap, ◌∙◌, arith}
use Rattle.std.proofs.lemmas.Bool.{ltb-true}
use Rattle.table.specs.declared.refusal.Refusal.{Refusal}
use Rattle.table.specs.declared.refusal.Refusal.TheVariants.{Ended}
use Rattle.tablefile.specs.Fields.{Read, ◌then◌, tested, known, byte_at, number_at}

pub no_value : {X Y : Type 0} {x : X} {why : Refusal} → (let bad : Read X = Err why in bad ≡ Ok x) → Y
no_value h = let z : ◌≡◌ {A = ℕ} 0 1 = cc in absurd (omega arith)

pub same_value : {X : Type 0} {x y : X} → (let good : Read X = Ok x in good ≡ Ok y) → x ≡ y
same_value h = cc

pub then_ok : {X Y : Type 0} (r : Read X) (more : X → Read Y) {y : Y} → (r then more) ≡ Ok y → (x : X) × (r ≡ Ok x) × (more x ≡ Ok y)
then_ok (Ok x) more h = (x, refl, h)
then_ok (Err why) more h = no_value h

pub tested_ok : {X : Type 0} (good : Bool) (why : Refusal) (x : X) {y : X} → tested good why x ≡ Ok y → (good ≡ true) × (x ≡ y)
tested_ok true why x h = (refl, same_value h)
tested_ok false why x h = no_value h

pub known_ok : {X : Type 0} (o : Option X) (why : Refusal) {y : X} → known o why ≡ Ok y → o ≡ Some y
known_ok (Some x) why h = ap Some (same_value h)
known_ok None why h = no_value h

pub byte_ok : (s : List ℕ) (p : ℕ) {b : ℕ} → byte_at s p ≡ Ok b → (p < length s) × (get_or s p 0 ≡ b)
byte_ok s p h = go (ltb p (length s)) refl h
  where
    go : (t : Bool) → ltb p (length s) ≡ t → {b : ℕ} → cond t (Ok (get_or s p 0)) (Err (Ended (length s))) ≡ Ok b → (p < length s) × (get_or s p 0 ≡ b)
    go true e k = (ltb-true p (length s) e, same_value k)
    go false e k = no_value k

pub number_ok : (s : List ℕ) (p : ℕ) {v : ℕ} → number_at s p ≡ Ok v → (p + 1 < length s) × (get_or s p 0 * 256 + get_or s (p + 1) 0 ≡ v)
number_ok s p h = go (ltb (p + 1) (length s)) refl h
  where
    go : (t : Bool) → ltb (p + 1) (length s) ≡ t → {v : ℕ} → cond t (Ok (get_or s p 0 * 256 + get_or s (p + 1) 0)) (Err (Ended (length s))) ≡ Ok v → (p + 1 < length s) × (get_or s p 0 * 256 + get_or s (p + 1) 0 ≡ v)
    go true e k = (ltb-true (p + 1) (length s) e, same_value k)
    go false e k = no_value k

-- a value that passes its test
tested_field : (r : Read ℕ) (test : ℕ → Bool) (why : Refusal) {b : ℕ} → (r then λ x. tested (test x) why x) ≡ Ok b → (r ≡ Ok b) × (test b ≡ true)
tested_field r test why {b} h =
    let one = then_ok r (λ x. tested (test x) why x) h in
    let two = tested_ok (test one.0) why one.0 one.2 in
    (one.1 ∙ ap Ok two.1, ap test (sym two.1) ∙ two.0)

pub tested_byte : (s : List ℕ) (p : ℕ) (test : ℕ → Bool) (why : Refusal) {b : ℕ} → (byte_at s p then λ x. tested (test x) why x) ≡ Ok b → (p < length s) × (get_or s p 0 ≡ b) × (test b ≡ true)
tested_byte s p test why {b} h =
    let one = tested_field (byte_at s p) test why h in
    let two = byte_ok s p one.0 in
    (two.0, two.1, one.1)

pub tested_number : (s : List ℕ) (p : ℕ) (test : ℕ → Bool) (why : Refusal) {v : ℕ} → (number_at s p then λ x. tested (test x) why x) ≡ Ok v → (p + 1 < length s) × (get_or s p 0 * 256 + get_or s (p + 1) 0 ≡ v) × (test v ≡ true)
tested_number s p test why {v} h =
    let one = tested_field (number_at s p) test why h in
    let two = number_ok s p one.0 in
    (two.0, two.1, one.1)
