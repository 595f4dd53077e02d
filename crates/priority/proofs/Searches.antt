-- What `find_map` over the numbers below n, from the last one down, answers, said of those numbers.
use Rattle.std.proofs.Common.{◌≡◌, ℕ, ◌+◌, ◌-◌, ◌<◌, Some, None, Option, IsTrue, refl, sym, ap, ◌∙◌, subst, arith}
use Rattle.std.specs.Prelude.{MatchOption, IfSome, IsSomeAnd}
use Rattle.std.specs.Fn.{Called}
use Rattle.std.specs.Option.{option_map}
use Rattle.std.specs.declared.iter.Rev.{Rev}
use Rattle.std.specs.declared.ops.Range.{Range}
use Rattle.std.specs.Iterator.Adapters.{rev_steps, RevKeepsRuns}
use Rattle.std.specs.Iterator.Runs.{Run, SomeRun, IsIdenticalRun, ItemsCountDown, AllItemsGive, IsFirstToGive, CallKeepsClosure}
use Rattle.std.proofs.iter.runs.Sources.{nat_range_steps_back, range_runs_back}
use denote.Param.Members.{Mut}

as_is : (o : Option ℕ) → o ≡ option_map (λ y. y) o
as_is None = refl
as_is (Some x) = refl

pub last_mapped : {F B : Type 0} {g : Mut F (ℕ × Unit {0}) (Option B)} {s : Rev (Range ℕ)} (n : ℕ) (f : F) (r : Option B) (Told : ℕ → Option B → Type 0)
    → SomeRun (rev_steps nat_range_steps_back) s (λ p. MatchOption r (IsTrue p.whole × AllItemsGive p g f None) (λ y. (i : ℕ) × (i < p.len) × (p.len ≡ i + 1) × IsFirstToGive p g f (Some y) None i))
    → RevKeepsRuns nat_range_steps_back (record { start = 0; end = n }) s → CallKeepsClosure g f → ((x : ℕ) (o : Option B) → Called g f (x, tt) o f → Told x o)
    → MatchOption r ((k : ℕ) → k < n → Told k None) (λ y. (i : ℕ) × (i < n) × Told i (Some y) × ((k : ℕ) → i < k → k < n → Told k None))
last_mapped {F} {B} {g} {s} n f r Told (p, from, m) back keeps told = by r m
  where
    source : SomeRun nat_range_steps_back (record { start = 0; end = n }) (λ q. IsIdenticalRun p q)
    source = back p p.seen from

    q : Run nat_range_steps_back
    q = source.0

    down : ItemsCountDown q 0 n
    down = subst (λ (z : Range ℕ). ItemsCountDown q z.start z.end) source.1 (range_runs_back q q.seen)

    long : q.len ≡ p.len
    long = source.2.0.0

    -- the item at place j is n - 1 - j
    at : (j k : ℕ) → j < p.len → n - 1 - j ≡ k → p.at j ≡ Some k
    at j k h e = sym (source.2.0.2 j) ∙ as_is (q.at j) ∙ down.3 j (omega (arith, h, long)) ∙ ap Some e

    by : (o : Option B) → MatchOption o (IsTrue p.whole × AllItemsGive p g f None) (λ y. (i : ℕ) × (i < p.len) × (p.len ≡ i + 1) × IsFirstToGive p g f (Some y) None i) → MatchOption o ((k : ℕ) → k < n → Told k None) (λ y. (i : ℕ) × (i < n) × Told i (Some y) × ((k : ℕ) → i < k → k < n → Told k None))
    by None (whole, all) = λ k h. let j = n - 1 - k in told k None (subst (λ o. IfSome o (λ x. Called g f (x, tt) None f)) (at j k (omega (arith, h, long, down.1 (source.2.1 ∙ whole))) (omega (arith, h))) (all keeps j))
    by (Some y) (j, inside, last, first) =
        let found = first keeps in
        let i = n - 1 - j in
        let below : j < n = omega (arith, inside, long, down.0) in
        (i, omega (arith, below), told i (Some y) (subst (λ o. IsSomeAnd o (λ x. Called g f (x, tt) (Some y) f)) (at j i inside refl) found.0), λ k over h. let m = n - 1 - k in told k None (subst (λ o. IsSomeAnd o (λ x. Called g f (x, tt) None f)) (at m k (omega (arith, over, h, inside, below)) (omega (arith, h))) (found.1 m (omega (arith, over, h, below)))))
