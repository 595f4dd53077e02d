-- A test of every element, and the rules of a table from their parts.
use Rattle.std.proofs.Common.{◌≡◌, ℕ, zero, suc, ◌+◌, ◌-◌, ◌<◌, ◌≤◌, Bool, true, false, ◌&&◌, List, [], ◌∷◌, ◌++◌, map, length, get_or, take, drop, sym, refl, ap, ◌∙◌, le_of_suc-le-suc, not-suc-le-zero, arith}
use Rattle.std.proofs.lemmas.List.{drop-drop, take_rest}
use Rattle.std.proofs.lemmas.List.Folds.{list_all-append}
use Rattle.std.specs.List.{list_all, enumerate_from}
use Rattle.table.specs.Content.{sporadic}
use Rattle.table.specs.Rules.{rank_free, ranks_differ, follows_rules, band_in_range}
use Rattle.table.specs.declared.task.Task.{Task}
use Rattle.table.specs.declared.kinds.PolicyCode.{PolicyCode}
use Rattle.std.proofs.lemmas.Bool.Decides.{nat_tests}
use Rattle.table.specs.Sporadic.{Sporadic, every, task_in_range, within}

pub and_true : (a b : Bool) → a ≡ true → b ≡ true → (a && b) ≡ true
and_true a b p q = ap (λ x. x && b) p ∙ q

pub and_left : (a b : Bool) → (a && b) ≡ true → a ≡ true
and_left true b h = refl
and_left false b h = h

pub and_right : (a b : Bool) → (a && b) ≡ true → b ≡ true
and_right true b h = h
and_right false true h = refl
and_right false false h = h

module _ {X : Type 0} (p : X → Bool) where
  pub every_at : (xs : List X) (i : ℕ) (d : X) → i < length xs → every p xs ≡ true → p (get_or xs i d) ≡ true
  every_at [] i d h e = absurd (not-suc-le-zero h)
  every_at (x ∷ xs) zero d h e = and_left (p x) (every p xs) e
  every_at (x ∷ xs) (suc i) d h e = every_at xs i d (le_of_suc-le-suc h) (and_right (p x) (every p xs) e)

  pub every_append : (xs ys : List X) → every p xs ≡ true → every p ys ≡ true → every p (xs ++ ys) ≡ true
  every_append xs ys e f = list_all-append p xs ys ∙ and_true (every p xs) (every p ys) e f

-- different ranks, as a test of each task with its number
module _ (all : List Task) where
  abbrev behind : ℕ → List Task
  behind i = take (length all - i) (drop i all)

  from_here : (ts : List Task) (i : ℕ) → drop i all ≡ ts → list_all (λ p. rank_free p.1.rank (map sporadic (behind (p.0 + 1)))) (enumerate_from i ts) ≡ ranks_differ (map sporadic ts)
  from_here [] i here = refl
  from_here (t ∷ ts) i here =
      let next : drop (i + 1) all ≡ ts = sym (drop-drop 1 i all) ∙ ap (drop 1) here in
      let rest : behind (i + 1) ≡ ts = take_rest all (i + 1) ∙ next in
      λ k. rank_free t.rank (map sporadic (rest k)) && from_here ts (i + 1) next k

  pub ranks_along : list_all (λ p. rank_free p.1.rank (map sporadic (take (length all - (p.0 + 1)) (drop (p.0 + 1) all)))) (enumerate_from 0 all) ≡ ranks_differ (map sporadic all)
  ranks_along = from_here all 0 refl

-- the rules from their parts, for n tasks
module _ (policy : PolicyCode) (band : ℕ) (ts : List Sporadic) (n : ℕ) (long : length ts ≡ n) where
  pub rules_inside : 1 ≤ n → n ≤ 24 → ((band_in_range policy n band && every (task_in_range n) ts) && ranks_differ ts) ≡ follows_rules policy band ts
  unfolding follows_rules
  rules_inside low high = rw (← long) (go (band_in_range policy (length ts) band) (every (task_in_range (length ts)) ts) (ranks_differ ts))
    where
      here : within 1 24 (length ts) ≡ true
      here = grind (arith, nat_tests)

      go : (a b c : Bool) → ((a && b) && c) ≡ (within 1 24 (length ts) && (a && (b && c)))
      go true b c = sym (ap (λ x. x && (b && c)) here)
      go false b c = sym (ap (λ x. x && false) here)
