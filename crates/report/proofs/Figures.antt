-- The digits of a number, one by one from the last.
use Rattle.std.proofs.Common.{◌≡◌, ℕ, ◌+◌, ◌/◌, ◌%◌, ◌^◌, ◌<◌, ◌≤◌, List, [], ◌∷◌, ◌++◌, length, get_or, take, decimal, sym, ap, ◌∙◌, ⊎_elim, arith, length-append, length-take-le}
use Rattle.std.proofs.lemmas.Bool.{cases_lt}
use Rattle.std.proofs.lemmas.List.{take_more, same_from_push}
use Rattle.std.proofs.lemmas.Fmt.{decimal_digit, decimal_step}

-- one digit less
pub shorter : (n : ℕ) → n < 2 ^ 64 → 10 ≤ n → length (decimal n) ≡ length (decimal (n / 10)) + 1
shorter n small long = ap length (decimal_step n long (omega arith)) ∙ length-append (decimal (n / 10)) ((48 + n % 10) ∷ [])

-- the front of the text is the number without the digits behind it
pub record Digit (text : List ℕ) (k rest : ℕ) : Type 0 where
  pub here : get_or text k 0 ≡ 48 + rest % 10
  pub front : 0 < k → take k text ≡ decimal (rest / 10)

pub digit : (text : List ℕ) (k rest : ℕ) → k < length text → rest < 2 ^ 64 → take (k + 1) text ≡ decimal rest → Digit text k rest
digit text k rest inside small is = ⊎_elim short long (cases_lt rest 10)
  where
    split : take (k + 1) text ≡ take k text ++ (get_or text k 0 ∷ [])
    split = take_more text k 0 inside

    short : rest < 10 → Digit text k rest
    short h =
        let same = same_from_push (take k text) [] (get_or text k 0) (48 + rest) (sym split ∙ is ∙ decimal_digit rest h) in
        let k0 : k ≡ 0 = sym (length-take-le k text (omega arith)) ∙ ap length same.0 in
        record { here = omega (arith, same.1); front = λ p. absurd (omega arith) }

    long : 10 ≤ rest → Digit text k rest
    long h =
        let same = same_from_push (take k text) (decimal (rest / 10)) (get_or text k 0) (48 + rest % 10) (sym split ∙ is ∙ decimal_step rest h (omega arith)) in
        record { here = same.1; front = λ p. same.0 }
