-- Calls laid over steps, one more at a time.
use Rattle.std.proofs.Common.{◌≡◌, ℕ, zero, suc, ◌≤◌, List, [], ◌∷◌, ◌++◌, length, take, set, Some, None, Option, refl, ap, arith}
use Rattle.std.specs.List.{filter_map, cons_option}
use Rattle.std.specs.Option.{option_to_list}
use Rattle.dispatch.specs.declared.replies.Event.{Event}
use Rattle.dispatch.specs.declared.replies.Step.{Step}
use Rattle.callfile.specs.Said.{call_said, calls_said, laid_over, unmade}

pub calls_said_is : (bs : List ℕ) → filter_map call_said bs ≡ calls_said bs
unfolding calls_said
calls_said_is [] = refl
calls_said_is (b ∷ bs) = go (call_said b) (calls_said_is bs)
  where
    go : (o : Option Event) → filter_map call_said bs ≡ calls_said bs → cons_option o (filter_map call_said bs) ≡ option_to_list o ++ calls_said bs
    go None h = h
    go (Some e) h = ap (λ es. e ∷ es) h

-- one more call is written behind those before it, or finds no place
pub laid_snoc : (said : List Event) (call : Event) (before : List Step) → laid_over (said ++ (call ∷ [])) before ≡ set (laid_over said before) (length said) (unmade call)
unfolding laid_over
laid_snoc [] call [] = refl
laid_snoc [] call (p ∷ ps) = refl
laid_snoc (e ∷ said) call [] = refl
laid_snoc (e ∷ said) call (p ∷ ps) = ap (λ qs. unmade e ∷ qs) (laid_snoc said call ps)

pub laid_none : (before : List Step) → laid_over [] before ≡ before
unfolding laid_over
laid_none before = refl

-- calls past the last step find no place
pub laid_take : (n : ℕ) (said : List Event) (before : List Step) → length before ≤ n → laid_over (take n said) before ≡ laid_over said before
unfolding laid_over
laid_take zero [] before h = refl
laid_take zero (e ∷ said) [] h = refl
laid_take zero (e ∷ said) (p ∷ ps) h = absurd (omega arith)
laid_take (suc n) [] before h = refl
laid_take (suc n) (e ∷ said) [] h = refl
laid_take (suc n) (e ∷ said) (p ∷ ps) h = ap (λ qs. unmade e ∷ qs) (laid_take n said ps (omega arith))
