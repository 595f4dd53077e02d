-- Two pastes in a row are one.
use Rattle.std.proofs.Common.{◌≡◌, ℕ, ◌+◌, ◌≤◌, List, [], ◌++◌, length, take, drop, decimal, sym, ap, ◌∙◌, subst, append_assoc, add-zero, arith, length-append, length-drop, take-append-drop, length-take-le, drop-drop, take_at, drop_at}
use Rattle.report.specs.Pasted.{pasted, Put, Appended}

-- the front of the output up to the end of what was pasted
front : (out : List ℕ) (at : ℕ) (xs : List ℕ) → at ≤ length out → length (take at out ++ xs) ≡ at + length xs
front out at xs inside = length-append (take at out) xs ∙ ap (λ n. n + length xs) (length-take-le at out inside)

pub length_pasted : (out : List ℕ) (at : ℕ) (xs : List ℕ) → at + length xs ≤ length out → length (pasted out at xs) ≡ length out
length_pasted out at xs fits =
    let inside : at ≤ length out = omega arith in
    omega (arith, length-append (take at out) (xs ++ drop (at + length xs) out), length-append xs (drop (at + length xs) out), length-take-le at out inside, length-drop (at + length xs) out)

pub paste_paste : (out : List ℕ) (at : ℕ) (xs ys : List ℕ) → at + length xs ≤ length out → pasted (pasted out at xs) (at + length xs) ys ≡ pasted out at (xs ++ ys)
paste_paste out at xs ys fits =
    let inside : at ≤ length out = omega arith in
    let head = take at out ++ xs in
    let tail = drop (at + length xs) out in
    let long : length head ≡ at + length xs = front out at xs inside in
    let cut : pasted out at xs ≡ head ++ tail = sym (append_assoc (take at out) xs tail) in
    let before : take (at + length xs) (pasted out at xs) ≡ head = ap (take (at + length xs)) cut ∙ take_at head tail (at + length xs) long in
    let behind : drop (at + length xs) (pasted out at xs) ≡ tail = ap (drop (at + length xs)) cut ∙ drop_at head tail (at + length xs) long in
    let rest : drop ((at + length xs) + length ys) (pasted out at xs) ≡ drop (at + length (xs ++ ys)) out =
    sym (drop-drop (length ys) (at + length xs) (pasted out at xs)) ∙ ap (drop (length ys)) behind ∙ drop-drop (length ys) (at + length xs) out ∙ ap (λ k. drop k out) (omega (arith, length-append xs ys)) in
    ap (λ zs. zs ++ (ys ++ drop ((at + length xs) + length ys) (pasted out at xs))) before ∙ ap (λ zs. head ++ (ys ++ zs)) rest ∙ append_assoc (take at out) xs (ys ++ drop (at + length (xs ++ ys)) out) ∙ ap (λ zs. take at out ++ zs) (sym (append_assoc xs ys (drop (at + length (xs ++ ys)) out)))

-- what a writer promises where its bytes fit
pub put_fits : (before : List ℕ) (at : ℕ) (bytes after : List ℕ) (answer : ℕ) → at + length bytes ≤ length before → after ≡ pasted before at bytes → answer ≡ length bytes → Put before at bytes after answer
put_fits before at bytes after answer inside same long = record { fits = λ h. (same, long); full = λ h. absurd (omega arith) }

pub paste_none : (out : List ℕ) (at : ℕ) → out ≡ pasted out at []
paste_none out at = sym (take-append-drop at out) ∙ ap (λ k. take at out ++ drop k out) (sym (add-zero at))

-- one text after another
pub joined : {before : List ℕ} {at : ℕ} {xs ys mid after : List ℕ} {next end : ℕ} → Appended before at xs mid next → Appended mid next ys after end → Appended before at (xs ++ ys) after end
joined {before} {at} {xs} {ys} {mid} {after} {next} {end} first second = record { done = λ h. both h }
  where
    both : at + length (xs ++ ys) ≤ length before → (after ≡ pasted before at (xs ++ ys)) × (end ≡ at + length (xs ++ ys))
    both h =
        let long : length (xs ++ ys) ≡ length xs + length ys = length-append xs ys in
        let room : at + length xs ≤ length before = omega arith in
        let one = first.done room in
        let same : length mid ≡ length before = ap length one.0 ∙ length_pasted before at xs room in
        let two = second.done (omega (arith, one.1)) in
        (two.0 ∙ ap (λ zs. pasted zs next ys) one.0 ∙ ap (λ k. pasted (pasted before at xs) k ys) one.1 ∙ paste_paste before at xs ys room, omega (arith, one.1, two.1))

pub nothing : (out : List ℕ) (at : ℕ) → Appended out at [] out at
nothing out at = record { done = λ h. (paste_none out at, omega arith) }

pub appended : {before : List ℕ} {at : ℕ} {bytes after : List ℕ} {answer : ℕ} → Put before at bytes after answer → Appended before at bytes after (at + answer)
appended {before} {at} {bytes} {after} {answer} p = record { done = λ h. ((p.fits h).0, ap (λ k. at + k) (p.fits h).1) }

-- the digits of a number are those of any number that it equals
pub counted : {before : List ℕ} {at m n : ℕ} {after : List ℕ} {next : ℕ} → m ≡ n → Appended before at (decimal m) after next → Appended before at (decimal n) after next
counted {before} {at} {m} {n} {after} {next} e p = subst (λ k. Appended before at (decimal k) after next) e p

-- a text put at the start is the front of what then stands there
pub first_bytes : {before text after : List ℕ} {len : ℕ} → Appended before 0 text after len → length text ≤ length before → (len ≡ length text) × (len ≤ length after) × (take len after ≡ text)
first_bytes {before} {text} {after} {len} put fits =
    let done = put.done (omega arith) in
    let end : length text ≡ len = omega (arith, done.1) in
    let room : length after ≡ length before = ap length done.0 ∙ length_pasted before 0 text (omega arith) in
    (sym end, omega (arith, room), ap (take len) done.0 ∙ take_at text (drop (0 + length text) before) len end)
