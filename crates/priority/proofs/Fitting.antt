-- Whether a task fits at a rank, by its worst response in any order that has it there and the same tasks behind.
use Rattle.std.proofs.Common.{◌≡◌, ℕ, ◌<◌, ◌≤◌, cond, eqb, ltb, ◌⊎◌, refl, ◌∙◌, inl, inr, arith}
use Rattle.std.proofs.lemmas.Bool.{cases_eq, cases_lt, cond-true, cond-false, eq-eqb, ne_eqb, lt-ltb, le-ltb}
use Rattle.table.specs.Rules.{TaskSet, Checked, task_count}
use Rattle.table.proofs.Ranges.{task_ranges, ranks_apart}
use Rattle.policy.specs.Orders.{fixed_order}
use Rattle.theory.specs.Guarantee.{AdmittedBy}
use Rattle.priority.specs.Ordering.{rank_in}
use Rattle.priority.specs.Assignment.{level_at, Fits, Filled}
use Rattle.priority.specs.Steps.{InTime}
use Rattle.priority.proofs.Pointwise.{Alike, alike_self, alike_back}
use Rattle.priority.proofs.Demand.{Fewer, Alone}
use Rattle.priority.proofs.Shorter.{SameSides, same_worst, sides_back, sides_count}

-- the same tasks have ranks after k
abbrev pub SamePlaced : ℕ → TaskSet → TaskSet → Type 0
SamePlaced k t u = (j : ℕ) → j < task_count t → (k < rank_in t j → k < rank_in u j) × (k < rank_in u j → k < rank_in t j)

module _ (t : TaskSet) (k i : ℕ) where
  pub level_own : (j : ℕ) → j ≡ i → level_at t k i j ≡ 1
  level_own j e = cond-true (eqb j i) 1 (cond (ltb k (rank_in t j)) 2 0) (eq-eqb j i e)

  pub level_behind : (j : ℕ) → (j ≡ i → ⊥) → k < rank_in t j → level_at t k i j ≡ 2
  level_behind j ne lt = cond-false (eqb j i) 1 (cond (ltb k (rank_in t j)) 2 0) (ne_eqb j i ne) ∙ cond-true {A = ℕ} (ltb k (rank_in t j)) 2 0 (lt-ltb k (rank_in t j) lt)

  pub level_ahead : (j : ℕ) → (j ≡ i → ⊥) → rank_in t j ≤ k → level_at t k i j ≡ 0
  level_ahead j ne le = cond-false (eqb j i) 1 (cond (ltb k (rank_in t j)) 2 0) (ne_eqb j i ne) ∙ cond-false {A = ℕ} (ltb k (rank_in t j)) 2 0 (le-ltb k (rank_in t j) le)

  -- the tasks ahead are those of ranks up to k
  pub ahead_low : (j : ℕ) → (j ≡ i → ⊥) → level_at t k i j < level_at t k i i → rank_in t j ≤ k
  ahead_low j ne h = go (cases_lt k (rank_in t j))
    where
      go : (k < rank_in t j) ⊎ (rank_in t j ≤ k) → rank_in t j ≤ k
      go (inl lt) = absurd (omega (arith, level_own i refl, level_behind j ne lt))
      go (inr le) = le

  pub low_ahead : (j : ℕ) → (j ≡ i → ⊥) → rank_in t j ≤ k → level_at t k i j < level_at t k i i
  low_ahead j ne le = omega (arith, level_own i refl, level_ahead j ne le)

  pub level_alone : (n : ℕ) → Alone n (level_at t k i) i
  level_alone n j lt e = go (cases_eq j i) (cases_lt k (rank_in t j))
    where
      go : (j ≡ i) ⊎ (j ≡ i → ⊥) → (k < rank_in t j) ⊎ (rank_in t j ≤ k) → j ≡ i
      go (inl q) b = q
      go (inr ne) (inl b) = absurd (omega (arith, level_own i refl, level_behind j ne b))
      go (inr ne) (inr b) = absurd (omega (arith, level_own i refl, level_ahead j ne b))

-- an order u of the tasks of t that has task i at rank k, and behind k the tasks that t has there
module _ (t u : TaskSet) (alike : Alike t u) (k i : ℕ) (checked : Checked u) (here : i < task_count t) (at : rank_in u i ≡ k) (placed : SamePlaced k t u) where
  rank_alone : Alone (task_count t) (rank_in u) i
  rank_alone j lt e = ranks_apart u checked j i (omega (arith, alike.count)) (omega (arith, alike.count)) e

  sides : SameSides (task_count t) (level_at t k i) (rank_in u) i
  sides = record { onward = onward; back = λ j lt ne h. low_ahead t k i j ne (back j lt h (cases_lt k (rank_in t j))); alone_f = level_alone t k i (task_count t); alone_g = rank_alone }
    where
      onward : Fewer (task_count t) (level_at t k i) (rank_in u) i
      onward j lt ne h = go (cases_lt k (rank_in u j))
        where
          go : (k < rank_in u j) ⊎ (rank_in u j ≤ k) → rank_in u j < rank_in u i
          go (inl b) = absurd (omega (arith, ahead_low t k i j ne h, (placed j lt).1 b))
          go (inr b) = let apart : rank_in u j ≡ rank_in u i → ⊥ = λ e. ne (rank_alone j lt e) in omega (arith, apart)

      back : (j : ℕ) → j < task_count t → rank_in u j < rank_in u i → (k < rank_in t j) ⊎ (rank_in t j ≤ k) → rank_in t j ≤ k
      back j lt h (inl b) = absurd (omega (arith, (placed j lt).0 b))
      back j lt h (inr b) = b

  pub time_fits : (L : ℕ) → InTime u L i → Fits t L k i
  time_fits L all q b v = omega (arith, alike.deadline i, all q b (same_worst t u (level_at t k i) (rank_in u) i alike sides L q b v))

  pub fits_time : (L : ℕ) → Fits t L k i → InTime u L i
  fits_time L fits r a w = omega (arith, alike.deadline i, fits r a (same_worst u t (rank_in u) (level_at t k i) i (alike_back t u alike) (sides_count (task_count t) (task_count u) (rank_in u) (level_at t k i) i alike.count (sides_back (task_count t) (level_at t k i) (rank_in u) i sides)) L r a w))

-- whether a task fits at rank k depends on which tasks are placed behind k alone
pub fits_moved : (t u : TaskSet) → Alike t u → (k i L : ℕ) → SamePlaced k t u → Fits t L k i → Fits u L k i
fits_moved t u alike k i L placed fits r a w = omega (arith, alike.deadline i, fits r a (same_worst u t (level_at u k i) (level_at t k i) i (alike_back t u alike) sides L r a w))
  where
    sides : SameSides (task_count u) (level_at u k i) (level_at t k i) i
    sides = record { onward = onward; back = back; alone_f = level_alone u k i (task_count u); alone_g = level_alone t k i (task_count u) }
      where
        onward : Fewer (task_count u) (level_at u k i) (level_at t k i) i
        onward j lt ne h = go (cases_lt k (rank_in t j))
          where
            go : (k < rank_in t j) ⊎ (rank_in t j ≤ k) → level_at t k i j < level_at t k i i
            go (inl b) = absurd (omega (arith, ahead_low u k i j ne h, (placed j (omega (arith, alike.count))).0 b))
            go (inr b) = low_ahead t k i j ne b

        back : Fewer (task_count u) (level_at t k i) (level_at u k i) i
        back j lt ne h = go (cases_lt k (rank_in u j))
          where
            go : (k < rank_in u j) ⊎ (rank_in u j ≤ k) → level_at u k i j < level_at u k i i
            go (inl b) = absurd (omega (arith, ahead_low t k i j ne h, (placed j (omega (arith, alike.count))).1 b))
            go (inr b) = low_ahead u k i j ne b

-- an order filled by the rule is admitted
pub filled_admitted : (t : TaskSet) (L : ℕ) → Checked t → Filled t L 0 → AdmittedBy t (fixed_order t) L
filled_admitted t L checked filled i r a here w = fits_time t t (alike_self t) (rank_in t i) i checked here refl (λ j lt. (λ h. h, λ h. h)) L (filled i here (task_ranges t checked i here).rank_low).0 r a w
