-- Sums, maxima and counts over the numbers below n.
use Rattle.std.proofs.Common.{◌≡◌, ℕ, zero, suc, ◌+◌, ◌<◌, ◌≤◌, max, Bool, true, false, cond, eqb, ◌⊎◌, sym, refl, ap, ◌∙◌, inl, inr, not-suc-le-zero, arith}
use Rattle.std.proofs.lemmas.Bool.{cases_eq, cases_lt, cond-true, cond-false, eq-eqb, ne_eqb, cases_Bool, both_ways}
use Rattle.theory.specs.Sums.{sum_below, max_below, count_below}

pub sum_cong : (n : ℕ) (f g : ℕ → ℕ) → ((j : ℕ) → j < n → f j ≡ g j) → sum_below n f ≡ sum_below n g
unfolding sum_below
sum_cong zero f g h = refl
sum_cong (suc n) f g h = omega (arith, sum_cong n f g (λ j lt. h j (omega arith)), h n (omega arith))

pub sum_mono : (n : ℕ) (f g : ℕ → ℕ) → ((j : ℕ) → j < n → f j ≤ g j) → sum_below n f ≤ sum_below n g
unfolding sum_below
sum_mono zero f g h = omega arith
sum_mono (suc n) f g h = omega (arith, sum_mono n f g (λ j lt. h j (omega arith)), h n (omega arith))

pub sum_add : (n : ℕ) (f g : ℕ → ℕ) → sum_below n (λ j. f j + g j) ≡ sum_below n f + sum_below n g
unfolding sum_below
sum_add zero f g = refl
sum_add (suc n) f g = omega (arith, sum_add n f g)

pub sum_zero : (n : ℕ) (f : ℕ → ℕ) → ((j : ℕ) → j < n → f j ≡ 0) → sum_below n f ≡ 0
unfolding sum_below
sum_zero zero f h = refl
sum_zero (suc n) f h = omega (arith, sum_zero n f (λ j lt. h j (omega arith)), h n (omega arith))

-- one summand taken out
pub sum_split : (n i : ℕ) (f : ℕ → ℕ) → i < n → sum_below n f ≡ f i + sum_below n (λ j. cond (eqb j i) 0 (f j))
unfolding sum_below
sum_split zero i f h = absurd (not-suc-le-zero h)
sum_split (suc n) i f h = go (cases_eq n i) (λ lt. sum_split n i f lt)
  where
    go : (n ≡ i) ⊎ (n ≡ i → ⊥) → (i < n → sum_below n f ≡ f i + sum_below n (λ j. cond (eqb j i) 0 (f j))) → sum_below (suc n) f ≡ f i + sum_below (suc n) (λ j. cond (eqb j i) 0 (f j))
    go (inl e) below =
        let rest : sum_below n f ≡ sum_below n (λ j. cond (eqb j i) 0 (f j)) = sum_cong n f (λ j. cond (eqb j i) 0 (f j)) (λ j lt. sym (cond-false (eqb j i) 0 (f j) (ne_eqb j i (λ q. omega arith)))) in
        omega (arith, cond-true (eqb n i) 0 (f n) (eq-eqb n i e), ap f e)
    go (inr ne) below = omega (arith, below (omega (arith, ne)), cond-false (eqb n i) 0 (f n) (ne_eqb n i ne))

-- a sum with one summand that is not 0
pub sum_single : (n i : ℕ) (f : ℕ → ℕ) → i < n → ((j : ℕ) → j < n → (j ≡ i → ⊥) → f j ≡ 0) → sum_below n f ≡ f i
sum_single n i f h others = omega (arith, sum_split n i f h, sum_zero n (λ j. cond (eqb j i) 0 (f j)) (λ j lt. go j lt (cases_eq j i)))
  where
    go : (j : ℕ) → j < n → (j ≡ i) ⊎ (j ≡ i → ⊥) → cond (eqb j i) 0 (f j) ≡ 0
    go j lt (inl e) = cond-true (eqb j i) 0 (f j) (eq-eqb j i e)
    go j lt (inr ne) = cond-false (eqb j i) 0 (f j) (ne_eqb j i ne) ∙ others j lt ne

pub max_cong : (n : ℕ) (f g : ℕ → ℕ) → ((j : ℕ) → j < n → f j ≡ g j) → max_below n f ≡ max_below n g
unfolding max_below
max_cong zero f g h = refl
max_cong (suc n) f g h = omega (arith, max_cong n f g (λ j lt. h j (omega arith)), h n (omega arith))

pub max_at : (n j : ℕ) (f : ℕ → ℕ) → j < n → f j ≤ max_below n f
unfolding max_below
max_at zero j f h = absurd (not-suc-le-zero h)
max_at (suc n) j f h = go (cases_eq j n) (λ lt. max_at n j f lt)
  where
    go : (j ≡ n) ⊎ (j ≡ n → ⊥) → (j < n → f j ≤ max_below n f) → f j ≤ max (max_below n f) (f n)
    go (inl e) below = omega (arith, ap f e)
    go (inr ne) below = omega (arith, below (omega (arith, ne)))

-- a maximum is 0 or taken somewhere
pub max_taken : (n : ℕ) (f : ℕ → ℕ) → (max_below n f ≡ 0) ⊎ ((j : ℕ) × (j < n) × (max_below n f ≡ f j))
unfolding max_below
max_taken zero f = inl refl
max_taken (suc n) f = go (cases_lt (max_below n f) (f n)) (max_taken n f)
  where
    go : (max_below n f < f n) ⊎ (f n ≤ max_below n f) → (max_below n f ≡ 0) ⊎ ((j : ℕ) × (j < n) × (max_below n f ≡ f j)) → (max_below (suc n) f ≡ 0) ⊎ ((j : ℕ) × (j < suc n) × (max_below (suc n) f ≡ f j))
    go (inl lt) e = inr (n, omega arith, omega arith)
    go (inr le) (inl e) = inl (omega arith)
    go (inr le) (inr (j, lt, e)) = inr (j, omega arith, omega arith)

-- the test passes below N: at least N pass
pub count_at_least : (n N : ℕ) (p : ℕ → Bool) → N ≤ n → ((k : ℕ) → k < N → p k ≡ true) → N ≤ count_below n p
unfolding count_below
count_at_least zero N p le h = omega arith
count_at_least (suc n) N p le h = go (cases_eq N (suc n)) (λ M up low. count_at_least n M p up low)
  where
    go : (N ≡ suc n) ⊎ (N ≡ suc n → ⊥) → ((M : ℕ) → M ≤ n → ((k : ℕ) → k < M → p k ≡ true) → M ≤ count_below n p) → N ≤ count_below n p + cond (p n) 1 0
    go (inl e) below = omega (arith, below n (omega arith) (λ k lt. h k (omega arith)), cond-true {A = ℕ} (p n) 1 0 (h n (omega arith)))
    go (inr ne) below = omega (arith, below N (omega (arith, ne)) h)

-- only numbers below N pass the test: at most N pass
pub count_at_most : (n N : ℕ) (p : ℕ → Bool) → ((k : ℕ) → k < n → p k ≡ true → k < N) → count_below n p ≤ N
unfolding count_below
count_at_most n N p h = omega (arith, go n (λ k lt e. h k lt e))
  where
    room : (m : ℕ) (q : ℕ → Bool) → count_below m q ≤ m
    room zero q = omega arith
    room (suc m) q = grind (arith, room m q)

    go : (m : ℕ) → ((k : ℕ) → k < m → p k ≡ true → k < N) → count_below m p ≤ N
    go zero low = omega arith
    go (suc m) low = last (cases_Bool (p m)) (go m (λ k lt e. low k (omega arith) e))
      where
        last : (p m ≡ true) ⊎ (p m ≡ false) → count_below m p ≤ N → count_below m p + cond (p m) 1 0 ≤ N
        last (inl e) ih = omega (arith, cond-true {A = ℕ} (p m) 1 0 e, low m (omega arith) e, room m p)
        last (inr e) ih = omega (arith, cond-false {A = ℕ} (p m) 1 0 e)

-- a weaker test over more numbers passes more
pub count_mono : (n m : ℕ) (p q : ℕ → Bool) → n ≤ m → ((k : ℕ) → k < n → p k ≡ true → q k ≡ true) → count_below n p ≤ count_below m q
unfolding count_below
count_mono n zero p q le h = go n (omega arith)
  where
    go : (k : ℕ) → k ≡ 0 → count_below k p ≤ count_below zero q
    go zero e = omega arith
    go (suc k) e = absurd (omega arith)
count_mono n (suc m) p q le h = go (cases_eq n (suc m)) (λ k up low. count_mono k m p q up low)
  where
    last : (k : ℕ) → (p k ≡ true → q k ≡ true) → cond (p k) 1 0 ≤ cond (q k) 1 0
    last k f = two (p k) (q k) f
      where
        two : (a b : Bool) → (a ≡ true → b ≡ true) → cond a 1 0 ≤ cond b 1 0
        two false b f = omega arith
        two true true f = omega arith
        two true false f = absurd (both_ways false refl (f refl))

    more : (k : ℕ) → k ≡ suc m → ((j : ℕ) → j ≤ m → ((i : ℕ) → i < j → p i ≡ true → q i ≡ true) → count_below j p ≤ count_below m q) → ((i : ℕ) → i < k → p i ≡ true → q i ≡ true) → count_below k p ≤ count_below (suc m) q
    more zero e below low = omega arith
    more (suc k) e below low = omega (arith, below k (omega arith) (λ i lt f. low i (omega arith) f), last k (low k (omega arith)), ap {B = ℕ} (λ z. cond (q z) 1 0) (same e))
      where
        same : suc k ≡ suc m → k ≡ m
        same x = omega arith

    go : (n ≡ suc m) ⊎ (n ≡ suc m → ⊥) → ((k : ℕ) → k ≤ m → ((i : ℕ) → i < k → p i ≡ true → q i ≡ true) → count_below k p ≤ count_below m q) → count_below n p ≤ count_below (suc m) q
    go (inl e) below = more n e below h
    go (inr ne) below = omega (arith, below n (omega (arith, ne)) h)
