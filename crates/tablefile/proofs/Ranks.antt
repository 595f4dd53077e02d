-- Different ranks, one task after another.
use Rattle.std.proofs.Common.{◌≡◌, ℕ, Bool, true, not, eqb, List, [], ◌∷◌, ◌++◌, refl, arith}
use Rattle.std.proofs.lemmas.Bool.Decides.{nat_tests}
use Rattle.table.proofs.Every.{and_true, and_left, and_right, every_append}
use Rattle.table.specs.Sporadic.{Sporadic, every}
use Rattle.table.specs.Rules.{rank_free, ranks_differ}

-- no rank is the other, either way round
swapped : (a b : ℕ) → not (eqb a b) ≡ true → not (eqb b a) ≡ true
swapped a b h = grind (arith, nat_tests)

pub ranks_push : (xs : List Sporadic) (t : Sporadic) → ranks_differ xs ≡ true → rank_free t.rank xs ≡ true → ranks_differ (xs ++ t ∷ []) ≡ true
ranks_push [] t d f = refl
ranks_push (x ∷ xs) t d f =
    let other = swapped x.rank t.rank (and_left (not (eqb x.rank t.rank)) (rank_free t.rank xs) f) in
    and_true (rank_free x.rank (xs ++ t ∷ [])) (ranks_differ (xs ++ t ∷ []))
    (every_append (λ y. not (eqb y.rank x.rank)) xs (t ∷ []) (and_left (rank_free x.rank xs) (ranks_differ xs) d) (and_true (not (eqb t.rank x.rank)) true other refl))
    (ranks_push xs t (and_right (rank_free x.rank xs) (ranks_differ xs) d) (and_right (not (eqb x.rank t.rank)) (rank_free t.rank xs) f))

every_mid : (p : Sporadic → Bool) (xs : List Sporadic) (t : Sporadic) (more : List Sporadic) → every p (xs ++ t ∷ more) ≡ true → p t ≡ true
every_mid p [] t more h = and_left (p t) (every p more) h
every_mid p (x ∷ xs) t more h = every_mid p xs t more (and_right (p x) (every p (xs ++ t ∷ more)) h)

pub ranks_front : (xs : List Sporadic) (t : Sporadic) (more : List Sporadic) → ranks_differ (xs ++ t ∷ more) ≡ true → rank_free t.rank xs ≡ true
ranks_front [] t more h = refl
ranks_front (x ∷ xs) t more h =
    let free = and_left (rank_free x.rank (xs ++ t ∷ more)) (ranks_differ (xs ++ t ∷ more)) h in
    and_true (not (eqb x.rank t.rank)) (rank_free t.rank xs)
    (swapped t.rank x.rank (every_mid (λ y. not (eqb y.rank x.rank)) xs t more free))
    (ranks_front xs t more (and_right (rank_free x.rank (xs ++ t ∷ more)) (ranks_differ (xs ++ t ∷ more)) h))
