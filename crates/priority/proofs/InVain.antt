-- Where no task that is left fits at a rank, every order of the tasks has a late one: the task left that the order ranks last.
use Rattle.std.proofs.Common.{◌≡◌, ℕ, zero, suc, ◌<◌, ◌≤◌, ◌⊎◌, ap, inl, inr, arith}
use Rattle.std.proofs.lemmas.Bool.{cases_eq, cases_lt}
use Rattle.table.specs.Rules.{TaskSet, Checked, task_at, task_count}
use Rattle.table.proofs.Ranges.{ranks_apart}
use Rattle.policy.specs.Orders.{fixed_order}
use Rattle.theory.specs.BusyPeriod.{BusyPeriod}
use Rattle.theory.specs.Response.{ResponseAt}
use Rattle.theory.specs.Worst.{Worst}
use Rattle.theory.specs.Guarantee.{LateBy}
use Rattle.theory.proofs.Existence.{response_exists}
use Rattle.theory.proofs.WorstExists.{worst_exists}
use Rattle.priority.specs.Ordering.{OrderingOf, rank_in}
use Rattle.priority.specs.Assignment.{level_at, Fits, Filled, Stuck, Unfilled}
use Rattle.priority.proofs.Pointwise.{Alike, alike_back, alike_through, same_busy, ordering_alike}
use Rattle.priority.proofs.Demand.{Fewer, Alone}
use Rattle.priority.proofs.Shorter.{shorter}
use Rattle.priority.proofs.Fitting.{ahead_low}
use Rattle.priority.proofs.Lawful.{fixed_lawful}
use Rattle.priority.proofs.Ranked.{rank_taken}

-- of the numbers below m with g at most k, the one with the greatest h
Last : (ℕ → ℕ) → (ℕ → ℕ) → ℕ → ℕ → Type 0
Last g h k m = (i : ℕ) × (i < m) × (g i ≤ k) × ((j : ℕ) → j < m → g j ≤ k → h j ≤ h i)

last_left : (g h : ℕ → ℕ) (k m : ℕ) → Last g h k m ⊎ ((j : ℕ) → j < m → k < g j)
unfolding Last
last_left g h k zero = inr (λ j lt. absurd (omega arith))
last_left g h k (suc m) = go (cases_lt k (g m)) (last_left g h k m)
  where
    go : (k < g m) ⊎ (g m ≤ k) → Last g h k m ⊎ ((j : ℕ) → j < m → k < g j) → Last g h k (suc m) ⊎ ((j : ℕ) → j < suc m → k < g j)
    go (inl above) (inl (i, lt, low, most)) = inl (i, omega arith, low, λ j below le. each j below le (cases_eq j m))
      where
        each : (j : ℕ) → j < suc m → g j ≤ k → (j ≡ m) ⊎ (j ≡ m → ⊥) → h j ≤ h i
        each j below le (inl e) = absurd (omega (arith, ap g e))
        each j below le (inr ne) = most j (omega (arith, ne)) le
    go (inl above) (inr none) = inr (λ j below. each j below (cases_eq j m))
      where
        each : (j : ℕ) → j < suc m → (j ≡ m) ⊎ (j ≡ m → ⊥) → k < g j
        each j below (inl e) = omega (arith, ap g e)
        each j below (inr ne) = none j (omega (arith, ne))
    go (inr here) (inr none) = inl (m, omega arith, here, λ j below le. each j below le (cases_eq j m))
      where
        each : (j : ℕ) → j < suc m → g j ≤ k → (j ≡ m) ⊎ (j ≡ m → ⊥) → h j ≤ h m
        each j below le (inl e) = omega (arith, ap h e)
        each j below le (inr ne) = absurd (omega (arith, none j (omega (arith, ne))))
    go (inr here) (inl (i, lt, low, most)) = two (cases_lt (h i) (h m))
      where
        two : (h i < h m) ⊎ (h m ≤ h i) → Last g h k (suc m) ⊎ ((j : ℕ) → j < suc m → k < g j)
        two (inl more) = inl (m, omega arith, here, λ j below le. each j below le (cases_eq j m))
          where
            each : (j : ℕ) → j < suc m → g j ≤ k → (j ≡ m) ⊎ (j ≡ m → ⊥) → h j ≤ h m
            each j below le (inl e) = omega (arith, ap h e)
            each j below le (inr ne) = omega (arith, most j (omega (arith, ne)) le)
        two (inr less) = inl (i, omega arith, low, λ j below le. each j below le (cases_eq j m))
          where
            each : (j : ℕ) → j < suc m → g j ≤ k → (j ≡ m) ⊎ (j ≡ m → ⊥) → h j ≤ h i
            each j below le (inl e) = omega (arith, ap h e)
            each j below le (inr ne) = most j (omega (arith, ne)) le

module _ (t u : TaskSet) (alike : Alike t u) (L k : ℕ) (busy : BusyPeriod t L) (checked_t : Checked t) (checked_u : Checked u) where
  -- where the last of the tasks left meets its deadline in the order u, it fits
  last_fits : (i : ℕ) → i < task_count t → ((j : ℕ) → j < task_count t → rank_in t j ≤ k → rank_in u j ≤ rank_in u i) → (r a : ℕ) → Worst u (fixed_order u) L i r a → r ≤ (task_at u i).deadline → Fits t L k i
  last_fits i here most r a w meets q b v = go (response_exists u (fixed_order u) checked_u (fixed_lawful u checked_u) i b (omega (arith, alike.count)) L (same_busy t u L alike busy) v.inside)
    where
      alone : Alone (task_count t) (rank_in u) i
      alone j lt e = ranks_apart u checked_u j i (omega (arith, alike.count)) (omega (arith, alike.count)) e

      fewer : Fewer (task_count t) (level_at t k i) (rank_in u) i
      fewer j lt ne h = let apart : rank_in u j ≡ rank_in u i → ⊥ = λ e. ne (alone j lt e) in omega (arith, apart, most j lt (ahead_low t k i j ne h))

      go : (p : ℕ) × ResponseAt u (fixed_order u) i b p → q ≤ (task_at t i).deadline
      go (p, g) = omega (arith, shorter t u (level_at t k i) (rank_in u) i b alike fewer alone checked_t here q p v.given g, w.longest b p v.inside g, alike.deadline i)

  pub stuck_late : 1 ≤ k → k ≤ task_count t → Stuck t L k → LateBy u (fixed_order u) L
  unfolding Last
  stuck_late low high stuck = go (last_left (rank_in t) (rank_in u) k (task_count t))
    where
      go : Last (rank_in t) (rank_in u) k (task_count t) ⊎ ((j : ℕ) → j < task_count t → k < rank_in t j) → LateBy u (fixed_order u) L
      go (inr none) = let x = rank_taken t checked_t k low high in absurd (omega (arith, none x.0 x.1, x.2))
      go (inl (i, here, left, most)) = two (worst_exists u (fixed_order u) L i checked_u (fixed_lawful u checked_u) (same_busy t u L alike busy) (omega (arith, alike.count)))
        where
          two : (r : ℕ) × (a : ℕ) × Worst u (fixed_order u) L i r a → LateBy u (fixed_order u) L
          two (r, a, w) = three (cases_lt (task_at u i).deadline r)
            where
              three : ((task_at u i).deadline < r) ⊎ (r ≤ (task_at u i).deadline) → LateBy u (fixed_order u) L
              three (inl late) = (i, r, a, omega (arith, alike.count), w, late)
              three (inr meets) = absurd (stuck i here left (last_fits i here most r a w meets))

-- a rank that no task left fits, as a refusal tells it
pub unfilled : (s : TaskSet) (L k : ℕ) → BusyPeriod s L → 1 ≤ k → k ≤ task_count s → (t : TaskSet) → OrderingOf s t → Filled t L k → Stuck t L k → Unfilled s L k
unfilled s L k busy low high t ordering filled stuck = record {
  low = low;
  high = high;
  placed = (t, ordering, filled, stuck);
  in_vain = λ u other.
      let there = ordering_alike s t ordering in
      stuck_late t u (alike_through t s u (alike_back s t there) (ordering_alike s u other)) L k (same_busy s t L there busy) ordering.ranks other.ranks low (omega (arith, there.count)) stuck;
}
