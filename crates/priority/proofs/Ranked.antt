-- Ranks from 1 to n that are all different leave none of them out.
use Rattle.std.proofs.Common.{◌≡◌, ℕ, zero, suc, ◌-◌, ◌<◌, ◌≤◌, cond, eqb, ltb, ◌⊎◌, sym, ap, ◌∙◌, inl, inr, arith}
use Rattle.std.proofs.lemmas.Bool.{cases_eq, cases_lt, cond-true, cond-false, eq-eqb, ne_eqb, lt-ltb, le-ltb}
use Rattle.table.specs.Rules.{TaskSet, Checked, task_count}
use Rattle.table.proofs.Ranges.{task_ranges, ranks_apart}
use Rattle.priority.specs.Ordering.{rank_in}

-- no more different values than there are
pigeonhole : (n m : ℕ) (h : ℕ → ℕ) → ((i : ℕ) → i < n → h i < m) → ((i j : ℕ) → i < n → j < n → h i ≡ h j → i ≡ j) → n ≤ m
pigeonhole zero m h small apart = omega arith
pigeonhole (suc n) zero h small apart = absurd (omega (arith, small n (omega arith)))
pigeonhole (suc n) (suc m) h small apart = omega (arith, pigeonhole n m moved (λ i lt. below i lt (cases_eq (h i) m)) (λ i j x y e. same i j x y e (cases_eq (h i) m) (cases_eq (h j) m)))
  where
    -- the value m is given the place of the last one
    moved : ℕ → ℕ
    moved i = cond (eqb (h i) m) (h n) (h i)

    is_last : (i : ℕ) → h i ≡ m → moved i ≡ h n
    is_last i e = cond-true (eqb (h i) m) (h n) (h i) (eq-eqb (h i) m e)

    stays : (i : ℕ) → (h i ≡ m → ⊥) → moved i ≡ h i
    stays i ne = cond-false (eqb (h i) m) (h n) (h i) (ne_eqb (h i) m ne)

    differs : (i : ℕ) → i < n → h i ≡ h n → ⊥
    differs i lt e = omega (arith, apart i n (omega arith) (omega arith) e)

    below : (i : ℕ) → i < n → (h i ≡ m) ⊎ (h i ≡ m → ⊥) → moved i < m
    below i lt (inl e) = let ne : h n ≡ m → ⊥ = λ q. differs i lt (e ∙ sym q) in omega (arith, is_last i e, small n (omega arith), ne)
    below i lt (inr ne) = omega (arith, stays i ne, small i (omega arith), ne)

    same : (i j : ℕ) → i < n → j < n → moved i ≡ moved j → (h i ≡ m) ⊎ (h i ≡ m → ⊥) → (h j ≡ m) ⊎ (h j ≡ m → ⊥) → i ≡ j
    same i j x y e (inl p) (inl q) = apart i j (omega arith) (omega arith) (p ∙ sym q)
    same i j x y e (inl p) (inr q) = absurd (differs j y (sym (stays j q) ∙ sym e ∙ is_last i p))
    same i j x y e (inr p) (inl q) = absurd (differs i x (sym (stays i p) ∙ e ∙ is_last j q))
    same i j x y e (inr p) (inr q) = apart i j (omega arith) (omega arith) (sym (stays i p) ∙ e ∙ stays j q)

-- a value is taken below n, or it is not
look : (n k : ℕ) (h : ℕ → ℕ) → ((i : ℕ) × (i < n) × (h i ≡ k)) ⊎ ((i : ℕ) → i < n → h i ≡ k → ⊥)
look zero k h = inr (λ i lt e. omega arith)
look (suc n) k h = go (cases_eq (h n) k) (look n k h)
  where
    go : (h n ≡ k) ⊎ (h n ≡ k → ⊥) → ((i : ℕ) × (i < n) × (h i ≡ k)) ⊎ ((i : ℕ) → i < n → h i ≡ k → ⊥) → ((i : ℕ) × (i < suc n) × (h i ≡ k)) ⊎ ((i : ℕ) → i < suc n → h i ≡ k → ⊥)
    go (inl e) rest = inl (n, omega arith, e)
    go (inr ne) (inl (i, lt, e)) = inl (i, omega arith, e)
    go (inr ne) (inr none) = inr (λ i lt e. last i lt e (cases_eq i n))
      where
        last : (i : ℕ) → i < suc n → h i ≡ k → (i ≡ n) ⊎ (i ≡ n → ⊥) → ⊥
        last i lt e (inl q) = ne (ap h (sym q) ∙ e)
        last i lt e (inr q) = none i (omega (arith, q)) e

module _ (t : TaskSet) (checked : Checked t) where
  -- every rank from 1 to n is some task's
  pub rank_taken : (k : ℕ) → 1 ≤ k → k ≤ task_count t → (i : ℕ) × (i < task_count t) × (rank_in t i ≡ k)
  rank_taken k low high = go (look (task_count t) k (rank_in t))
    where
      go : ((i : ℕ) × (i < task_count t) × (rank_in t i ≡ k)) ⊎ ((i : ℕ) → i < task_count t → rank_in t i ≡ k → ⊥) → (i : ℕ) × (i < task_count t) × (rank_in t i ≡ k)
      go (inl found) = found
      go (inr none) = absurd (omega (arith, pigeonhole (task_count t) (task_count t - 1) closed (λ i lt. small i lt (cases_lt (rank_in t i) k)) (λ i j x y e. apart i j x y e (cases_lt (rank_in t i) k) (cases_lt (rank_in t j) k))))
        where
          -- the ranks above k moved one down
          closed : ℕ → ℕ
          closed i = cond (ltb (rank_in t i) k) (rank_in t i - 1) (rank_in t i - 2)

          under : (i : ℕ) → rank_in t i < k → closed i ≡ rank_in t i - 1
          under i lt = cond-true (ltb (rank_in t i) k) (rank_in t i - 1) (rank_in t i - 2) (lt-ltb (rank_in t i) k lt)

          over : (i : ℕ) → k ≤ rank_in t i → closed i ≡ rank_in t i - 2
          over i le = cond-false (ltb (rank_in t i) k) (rank_in t i - 1) (rank_in t i - 2) (le-ltb (rank_in t i) k le)

          small : (i : ℕ) → i < task_count t → (rank_in t i < k) ⊎ (k ≤ rank_in t i) → closed i < task_count t - 1
          small i lt (inl b) = omega (arith, under i b, (task_ranges t checked i lt).rank_low)
          small i lt (inr b) = let ne : rank_in t i ≡ k → ⊥ = none i lt in omega (arith, over i b, (task_ranges t checked i lt).rank_low, (task_ranges t checked i lt).rank_high, ne)

          apart : (i j : ℕ) → i < task_count t → j < task_count t → closed i ≡ closed j → (rank_in t i < k) ⊎ (k ≤ rank_in t i) → (rank_in t j < k) ⊎ (k ≤ rank_in t j) → i ≡ j
          apart i j x y e (inl p) (inl q) = ranks_apart t checked i j x y (omega (arith, under i p, under j q, (task_ranges t checked i x).rank_low, (task_ranges t checked j y).rank_low))
          apart i j x y e (inl p) (inr q) = let ne : rank_in t j ≡ k → ⊥ = none j y in absurd (omega (arith, under i p, over j q, ne, (task_ranges t checked i x).rank_low))
          apart i j x y e (inr p) (inl q) = let ne : rank_in t i ≡ k → ⊥ = none i x in absurd (omega (arith, over i p, under j q, ne, (task_ranges t checked j y).rank_low))
          apart i j x y e (inr p) (inr q) = let ni : rank_in t i ≡ k → ⊥ = none i x in let nj : rank_in t j ≡ k → ⊥ = none j y in ranks_apart t checked i j x y (omega (arith, over i p, over j q, ni, nj))
