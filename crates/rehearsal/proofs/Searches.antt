-- What `find_map` over the numbers from 0 answers, said of those numbers.
use Rattle.std.proofs.Common.{◌≡◌, ℕ, ◌+◌, ◌<◌, Some, None, Option, IsTrue, ap, ◌∙◌, subst, arith}
use Rattle.std.specs.Prelude.{IfSome, IsSomeAnd, MatchOption}
use Rattle.std.specs.Fn.{Called}
use Rattle.std.specs.Option.{option_map}
use Rattle.std.specs.declared.ops.Range.{Range}
use Rattle.std.specs.Iterator.Runs.{SomeRun, AllItemsGive, IsFirstToGive, CallKeepsClosure}
use Rattle.std.proofs.iter.Yields.{nat_range_steps}
use Rattle.std.proofs.iter.runs.Sources.{range_runs}
use Rattle.theory.proofs.Search.{none_some, some_same}
use denote.Param.Members.{Mut}

read_if : (o : Option ℕ) (n : ℕ) (P : ℕ → Type 0) → option_map (λ y. y) o ≡ Some n → IfSome o P → P n
read_if None n P e h = absurd (none_some e)
read_if (Some x) n P e h = subst P (some_same e) h

read_and : (o : Option ℕ) (n : ℕ) (P : ℕ → Type 0) → option_map (λ y. y) o ≡ Some n → IsSomeAnd o P → P n
read_and None n P e h = absurd (none_some e)
read_and (Some x) n P e h = subst P (some_same e) h

pub first_mapped : {F B : Type 0} {g : Mut F (ℕ × Unit {0}) (Option B)} {s : Range ℕ} (n : ℕ) (f : F) (r : Option B) (Yes : ℕ → B → Type 0) (No : ℕ → Type 0)
    → SomeRun nat_range_steps s (λ p. MatchOption r (IsTrue p.whole × AllItemsGive p g f None) (λ y. (i : ℕ) × (i < p.len) × (p.len ≡ i + 1) × IsFirstToGive p g f (Some y) None i))
    → s.start ≡ 0 → s.end ≡ n → CallKeepsClosure g f
    → ((x : ℕ) (y : B) → Called g f (x, tt) (Some y) f → Yes x y) → ((x : ℕ) → Called g f (x, tt) None f → No x)
    → MatchOption r ((k : ℕ) → k < n → No k) (λ y. (i : ℕ) × (i < n) × Yes i y × ((k : ℕ) → k < i → No k))
first_mapped {F} {B} {g} {s} n f r Yes No (p, from, m) low high keeps some none = by r m
  where
    begins : p.from.start ≡ 0
    begins = ap (λ (q : Range ℕ). q.start) from ∙ low

    ends : p.from.end ≡ n
    ends = ap (λ (q : Range ℕ). q.end) from ∙ high

    at : (k : ℕ) → k < p.len → option_map (λ y. y) (p.at k) ≡ Some k
    at k h = let e : p.from.start + k ≡ k = omega (arith, begins) in (range_runs p p.seen).3 k h ∙ ap Some e

    by : (o : Option B) → MatchOption o (IsTrue p.whole × AllItemsGive p g f None) (λ y. (i : ℕ) × (i < p.len) × (p.len ≡ i + 1) × IsFirstToGive p g f (Some y) None i) → MatchOption o ((k : ℕ) → k < n → No k) (λ y. (i : ℕ) × (i < n) × Yes i y × ((k : ℕ) → k < i → No k))
    by None (whole, all) = λ k h. none k (read_if (p.at k) k (λ x. Called g f (x, tt) None f) (at k (omega (arith, h, begins, ends, (range_runs p p.seen).1 whole))) (all keeps k))
    by (Some y) (i, inside, long, first) =
        let found = first keeps in
        (i, omega (arith, inside, begins, ends, (range_runs p p.seen).0), some i y (read_and (p.at i) i (λ x. Called g f (x, tt) (Some y) f) (at i inside) found.0), λ k h. none k (read_and (p.at k) k (λ x. Called g f (x, tt) None f) (at k (omega (arith, h, inside))) (found.1 k h)))
