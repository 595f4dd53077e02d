-- Exchanging two ranks keeps the rules, and moves nothing that stands behind both.
use Rattle.std.proofs.Common.{◌≡◌, ℕ, ◌<◌, ◌≤◌, Bool, true, false, cond, not, ◌&&◌, eqb, List, [], ◌∷◌, map, sym, refl, ap, ◌∙◌, arith}
use lib.ListN.{length-map}
use Rattle.std.proofs.lemmas.List.{get_or-map}
use Rattle.std.proofs.lemmas.Bool.{both_ways, cond-true, eq-eqb, ne_eqb, eqb-false, not-true, not_from_false}
use Rattle.std.proofs.lemmas.Bool.Decides.{nat_tests}
use Rattle.table.specs.Sporadic.{Sporadic, within, every, task_in_range, cost_in_range, period_in_range, deadline_in_range, rank_in_range, name_in_range}
use Rattle.table.specs.Rules.{TaskSet, Checked, follows_rules, task_count, rank_free, ranks_differ, band_in_range}
use Rattle.table.specs.declared.kinds.PolicyCode.TheVariants.{Fixed}
use Rattle.table.proofs.Every.{and_true, and_left, and_right, rules_inside}
use Rattle.table.proofs.Ranges.{count_ranges}
use Rattle.priority.specs.Ordering.{OrderingOf, unranked, rank_in}
use Rattle.priority.specs.Exchange.{exchanged, exchange, with_exchanged}

exchange_apart : (x y a b : ℕ) → exchanged x y a ≡ exchanged x y b → a ≡ b
exchange_apart x y a b e = grind (arith, nat_tests)

exchange_within : (x y n r : ℕ) → 1 ≤ x → x ≤ n → 1 ≤ y → y ≤ n → within 1 n r ≡ true → within 1 n (exchanged x y r) ≡ true
exchange_within x y n r x₁ xn y₁ yn h = grind (arith, nat_tests)

-- the fourth of five tests changed
fourth : (a b c d e f : Bool) → (a && (b && (c && (d && e)))) ≡ true → f ≡ true → (a && (b && (c && (f && e)))) ≡ true
fourth true true true true e f h q = and_true f e q h
fourth true true true false e f h q = absurd (both_ways false refl h)
fourth true true false d e f h q = h
fourth true false c d e f h q = h
fourth false b c d e f h q = h

tasks_good : (s : TaskSet) → Checked s → (every (task_in_range (task_count s)) s.tasks && ranks_differ s.tasks) ≡ true
unfolding follows_rules
tasks_good s checked =
    let n = task_count s in
    and_right (band_in_range s.policy n s.band) (every (task_in_range n) s.tasks && ranks_differ s.tasks) (and_right (within 1 24 n) (band_in_range s.policy n s.band && (every (task_in_range n) s.tasks && ranks_differ s.tasks)) checked)

module _ (x y : ℕ) where
  range_kept : (n : ℕ) (ts : List Sporadic) → 1 ≤ x → x ≤ n → 1 ≤ y → y ≤ n → every (task_in_range n) ts ≡ true → every (task_in_range n) (map (exchange x y) ts) ≡ true
  range_kept n [] x₁ xn y₁ yn h = refl
  range_kept n (t ∷ ts) x₁ xn y₁ yn h =
      let here = and_left (task_in_range n t) (every (task_in_range n) ts) h in
      and_true (task_in_range n (exchange x y t)) (every (task_in_range n) (map (exchange x y) ts))
      (fourth (cost_in_range t.cost) (period_in_range t.period) (deadline_in_range t.period t.deadline) (rank_in_range n t.rank) (name_in_range t.name) (rank_in_range n (exchanged x y t.rank)) here
      (exchange_within x y n t.rank x₁ xn y₁ yn (and_left (rank_in_range n t.rank) (name_in_range t.name) (and_right (deadline_in_range t.period t.deadline) (rank_in_range n t.rank && name_in_range t.name) (and_right (period_in_range t.period) (deadline_in_range t.period t.deadline && (rank_in_range n t.rank && name_in_range t.name)) (and_right (cost_in_range t.cost) (period_in_range t.period && (deadline_in_range t.period t.deadline && (rank_in_range n t.rank && name_in_range t.name))) here))))))
      (range_kept n ts x₁ xn y₁ yn (and_right (task_in_range n t) (every (task_in_range n) ts) h))

  free_kept : (r : ℕ) (ts : List Sporadic) → rank_free r ts ≡ true → rank_free (exchanged x y r) (map (exchange x y) ts) ≡ true
  free_kept r [] h = refl
  free_kept r (t ∷ ts) h =
      let apart : t.rank ≡ r → ⊥ = eqb-false t.rank r (not-true (eqb t.rank r) (and_left (not (eqb t.rank r)) (rank_free r ts) h)) in
      and_true (not (eqb (exchanged x y t.rank) (exchanged x y r))) (rank_free (exchanged x y r) (map (exchange x y) ts))
      (not_from_false (eqb (exchanged x y t.rank) (exchanged x y r)) (ne_eqb (exchanged x y t.rank) (exchanged x y r) (λ e. apart (exchange_apart x y t.rank r e))))
      (free_kept r ts (and_right (not (eqb t.rank r)) (rank_free r ts) h))

  differ_kept : (ts : List Sporadic) → ranks_differ ts ≡ true → ranks_differ (map (exchange x y) ts) ≡ true
  differ_kept [] h = refl
  differ_kept (t ∷ ts) h = and_true (rank_free (exchanged x y t.rank) (map (exchange x y) ts)) (ranks_differ (map (exchange x y) ts)) (free_kept t.rank ts (and_left (rank_free t.rank ts) (ranks_differ ts) h)) (differ_kept ts (and_right (rank_free t.rank ts) (ranks_differ ts) h))

  unranked_kept : (ts : List Sporadic) → map unranked (map (exchange x y) ts) ≡ map unranked ts
  unranked_kept [] = refl
  unranked_kept (t ∷ ts) = ap (λ us. unranked t ∷ us) (unranked_kept ts)

  module _ (s : TaskSet) (checked : Checked s) (x₁ : 1 ≤ x) (xn : x ≤ task_count s) (y₁ : 1 ≤ y) (yn : y ≤ task_count s) where
    pub exchange_checked : Checked (with_exchanged x y s)
    exchange_checked =
        let good = tasks_good s checked in
        let n = task_count s in
        let ts = map (exchange x y) s.tasks in
        sym (rules_inside Fixed 0 ts n (length-map s.tasks (exchange x y)) (count_ranges s checked).0 (count_ranges s checked).1)
        ∙ and_true (every (task_in_range n) ts) (ranks_differ ts)
        (range_kept n s.tasks x₁ xn y₁ yn (and_left (every (task_in_range n) s.tasks) (ranks_differ s.tasks) good))
        (differ_kept s.tasks (and_right (every (task_in_range n) s.tasks) (ranks_differ s.tasks) good))

    pub exchange_ordering : OrderingOf s (with_exchanged x y s)
    exchange_ordering = record { policy = refl; band = refl; mode = refl; tasks = unranked_kept s.tasks; ranks = exchange_checked }

  -- the rank of each task after the exchange
  pub rank_exchanged : (s : TaskSet) (j : ℕ) → j < task_count s → rank_in (with_exchanged x y s) j ≡ exchanged x y (rank_in s j)
  rank_exchanged s j lt = ap (λ (t : Sporadic). t.rank) (get_or-map (exchange x y) s.tasks j _ _ lt)

pub exchanged_first : (x y : ℕ) → exchanged x y x ≡ y
exchanged_first x y = cond-true (eqb x x) y (cond (eqb x y) x x) (eq-eqb x x refl)

pub exchanged_behind : (x k r : ℕ) → x ≤ k → k < r → exchanged x k r ≡ r
exchanged_behind x k r low lt = grind (arith, nat_tests)

pub exchanged_low : (x k r : ℕ) → x ≤ k → r ≤ k → exchanged x k r ≤ k
exchanged_low x k r low le = grind (arith, nat_tests)
