-- One text after another on a page.
use Rattle.std.proofs.Common.{◌≡◌, ℕ, ◌+◌, ◌≤◌, List, [], ◌++◌, length, refl, ap, ◌∙◌, subst, arith}
use Rattle.report.specs.Pasted.{pasted, Appended}
use Rattle.report.specs.Text.{followed}
use Rattle.report.specs.Written.{Written}
use Rattle.report.specs.declared.page.Page.{Page}
use Rattle.report.proofs.Pastes.{joined, nothing}

pub then : {before mid after : Page} {xs ys : List ℕ} → Written before xs mid → Written mid ys after → Written before (xs ++ ys) after
then {before} {mid} {after} {xs} {ys} first second = record { same_output = second.same_output ∙ first.same_output; appended = joined first.appended second.appended }

pub blank : (page : Page) → Written page [] page
blank page = record { same_output = refl; appended = nothing _ _ }

-- the same word in other terms
pub reworded : {before after : Page} {word : List ℕ} (byte : ℕ) (other : List ℕ) → word ≡ other → Written before (followed word byte) after → Written before (followed other byte) after
reworded {before} {after} {word} byte other same h = subst (λ w. Written before (followed w byte) after) same h

-- what the lent output then is
pub settled : {before after : Page} {text out out' : List ℕ} {len : ℕ} → Written before text after → before.out.now ≡ out → before.free ≡ 0 → out' ≡ after.out.now → len ≡ after.free → Appended out 0 text out' len
settled {before} {after} {text} {out} {out'} {len} written first start last end = record { done = λ h. both h }
  where
    both : 0 + length text ≤ length out → (out' ≡ pasted out 0 text) × (len ≡ 0 + length text)
    both h =
        let done = written.appended.done (omega (arith, ap length first)) in
        (last ∙ done.0 ∙ ap (λ xs. pasted xs before.free text) first ∙ ap (λ n. pasted out n text) start, omega (arith, done.1))
