-- The work ahead and the blocking of task i when the tasks stand at levels: fewer tasks ahead make less of it, even where the others then block.
use Rattle.std.proofs.Common.{◌≡◌, ℕ, suc, ◌+◌, ◌-◌, ◌*◌, ◌/◌, ◌<◌, ◌≤◌, Bool, true, false, cond, ◌&&◌, eqb, ltb, ◌⊎◌, pos, negsuc, sym, ap, ◌∙◌, subst, inl, inr, mul-le-mul_right, zero-mul, arith}
use lib.Signed.{lt_z}
use Rattle.std.proofs.lemmas.Bool.{cases_Bool, cases_lt, cond-true, cond-false, and_parts, and_from, eqb-false, ltb-true, lt-ltb, le-ltb, ne_eqb}
use Rattle.table.specs.Rules.{TaskSet, task_at, task_count}
use Rattle.theory.specs.Sums.{sum_below}
use Rattle.theory.specs.Response.{jobs_ahead, work_ahead, blocking, until_finish, until_start}
use Rattle.theory.proofs.Sums.{sum_mono, sum_split, max_at, max_taken, count_mono, count_at_least, count_at_most}
use Rattle.priority.specs.Ordering.{level_order}
use Rattle.priority.proofs.Pointwise.{Alike, alike_self}

-- every other task ahead at the levels f is ahead at the levels g
abbrev pub Fewer : ℕ → (ℕ → ℕ) → (ℕ → ℕ) → ℕ → Type 0
Fewer n f g i = (j : ℕ) → j < n → (j ≡ i → ⊥) → f j < f i → g j < g i

-- no other task stands at the level of task i
abbrev pub Alone : ℕ → (ℕ → ℕ) → ℕ → Type 0
Alone n g i = (j : ℕ) → j < n → g j ≡ g i → j ≡ i

module _ (s t : TaskSet) (f g : ℕ → ℕ) (i a : ℕ) (alike : Alike s t) (fewer : Fewer (task_count s) f g i) where
  jobs_less : (j x y : ℕ) → j < task_count s → eqb j i ≡ false → x ≤ y → jobs_ahead s (level_order f) i a j x ≤ jobs_ahead t (level_order g) i a j y
  jobs_less j x y lt other le =
      count_mono x y (λ k. ltb (k * (task_at s j).period) x && cond (eqb j i) (lt_z (pos (k * (task_at s j).period)) (pos a)) (ltb (f j) (f i))) (λ k. ltb (k * (task_at t j).period) y && cond (eqb j i) (lt_z (pos (k * (task_at t j).period)) (pos a)) (ltb (g j) (g i))) le
      (λ k low h. each k (and_parts (ltb (k * (task_at s j).period) x) (cond (eqb j i) (lt_z (pos (k * (task_at s j).period)) (pos a)) (ltb (f j) (f i))) h))
    where
      each : (k : ℕ) → (ltb (k * (task_at s j).period) x ≡ true) × (cond (eqb j i) (lt_z (pos (k * (task_at s j).period)) (pos a)) (ltb (f j) (f i)) ≡ true) → (ltb (k * (task_at t j).period) y && cond (eqb j i) (lt_z (pos (k * (task_at t j).period)) (pos a)) (ltb (g j) (g i))) ≡ true
      each k (p, q) =
          let now : f j < f i = ltb-true (f j) (f i) (sym (cond-false (eqb j i) (lt_z (pos (k * (task_at s j).period)) (pos a)) (ltb (f j) (f i)) other) ∙ q) in
          and_from (ltb (k * (task_at t j).period) y) (cond (eqb j i) (lt_z (pos (k * (task_at t j).period)) (pos a)) (ltb (g j) (g i)))
          (lt-ltb (k * (task_at t j).period) y (omega (arith, ltb-true (k * (task_at s j).period) x p, ap (λ T. k * T) (alike.period j))))
          (cond-false (eqb j i) (lt_z (pos (k * (task_at t j).period)) (pos a)) (ltb (g j) (g i)) other ∙ lt-ltb (g j) (g i) (fewer j lt (eqb-false j i other) now))

  share_less : (j x y : ℕ) → j < task_count s → x ≤ y → cond (eqb j i) 0 (jobs_ahead s (level_order f) i a j x * (task_at s j).cost) ≤ cond (eqb j i) 0 (jobs_ahead t (level_order g) i a j y * (task_at t j).cost)
  share_less j x y lt le = go (cases_Bool (eqb j i))
    where
      go : (eqb j i ≡ true) ⊎ (eqb j i ≡ false) → cond (eqb j i) 0 (jobs_ahead s (level_order f) i a j x * (task_at s j).cost) ≤ cond (eqb j i) 0 (jobs_ahead t (level_order g) i a j y * (task_at t j).cost)
      go (inl e) = omega (arith, cond-true (eqb j i) 0 (jobs_ahead s (level_order f) i a j x * (task_at s j).cost) e)
      go (inr e) = omega (
        arith,
        cond-false (eqb j i) 0 (jobs_ahead s (level_order f) i a j x * (task_at s j).cost) e,
        cond-false (eqb j i) 0 (jobs_ahead t (level_order g) i a j y * (task_at t j).cost) e,
        ap (λ C. jobs_ahead s (level_order f) i a j x * C) (alike.cost j),
        mul-le-mul_right (task_at t j).cost (jobs_less j x y lt e le),
      )

  pub work_less : (x y : ℕ) → x ≤ y → work_ahead s (level_order f) i a x ≤ work_ahead t (level_order g) i a y
  work_less x y le = subst (λ n. work_ahead s (level_order f) i a x ≤ sum_below n (λ j. cond (eqb j i) 0 (jobs_ahead t (level_order g) i a j y * (task_at t j).cost))) alike.count
      (sum_mono (task_count s) (λ j. cond (eqb j i) 0 (jobs_ahead s (level_order f) i a j x * (task_at s j).cost)) (λ j. cond (eqb j i) 0 (jobs_ahead t (level_order g) i a j y * (task_at t j).cost)) (λ j lt. share_less j x y lt le))

  pub finish_less : (x y : ℕ) → x ≤ y → until_finish s (level_order f) i a x ≤ until_finish t (level_order g) i a y
  finish_less x y le = omega (arith, work_less x y le, ap (λ T. (1 + a / T) * (task_at s i).cost) (alike.period i), ap (λ C. (1 + a / (task_at t i).period) * C) (alike.cost i))

  -- a task that blocks at the levels f blocks as long at g, or has work ahead there that it has not at f
  module _ (alone : Alone (task_count s) g i) where
    behind_work : (b x : ℕ) → b < task_count s → eqb b i ≡ false → f i < f b → g b < g i → ((task_at s b).cost - 1) + work_ahead s (level_order f) i a (suc x) ≤ work_ahead t (level_order g) i a (suc x)
    behind_work b x lt other above below =
        omega (arith, sum_split (task_count s) b mine lt, sum_split (task_count s) b theirs lt, none, some, rest, counts)
      where
        mine : ℕ → ℕ
        mine j = cond (eqb j i) 0 (jobs_ahead s (level_order f) i a j (suc x) * (task_at s j).cost)

        theirs : ℕ → ℕ
        theirs j = cond (eqb j i) 0 (jobs_ahead t (level_order g) i a j (suc x) * (task_at t j).cost)

        counts : work_ahead t (level_order g) i a (suc x) ≡ sum_below (task_count s) theirs
        counts = ap (λ n. sum_below n theirs) (sym alike.count)

        none : mine b ≡ 0
        none = cond-false (eqb b i) 0 (jobs_ahead s (level_order f) i a b (suc x) * (task_at s b).cost) other ∙ ap (λ z. z * (task_at s b).cost) idle ∙ zero-mul (task_at s b).cost
          where
            idle : jobs_ahead s (level_order f) i a b (suc x) ≡ 0
            idle = omega (arith, count_at_most (suc x) 0 (λ k. ltb (k * (task_at s b).period) (suc x) && cond (eqb b i) (lt_z (pos (k * (task_at s b).period)) (pos a)) (ltb (f b) (f i))) (λ k low h. absurd (clash k (and_parts (ltb (k * (task_at s b).period) (suc x)) (cond (eqb b i) (lt_z (pos (k * (task_at s b).period)) (pos a)) (ltb (f b) (f i))) h).1)))
              where
                clash : (k : ℕ) → cond (eqb b i) (lt_z (pos (k * (task_at s b).period)) (pos a)) (ltb (f b) (f i)) ≡ true → ⊥
                clash k q = omega (arith, ltb-true (f b) (f i) (sym (cond-false (eqb b i) (lt_z (pos (k * (task_at s b).period)) (pos a)) (ltb (f b) (f i)) other) ∙ q))

        some : (task_at s b).cost ≤ theirs b
        some = omega (arith, alike.cost b, cond-false (eqb b i) 0 (jobs_ahead t (level_order g) i a b (suc x) * (task_at t b).cost) other, mul-le-mul_right (task_at t b).cost first)
          where
            first : 1 ≤ jobs_ahead t (level_order g) i a b (suc x)
            first = count_at_least (suc x) 1 (λ k. ltb (k * (task_at t b).period) (suc x) && cond (eqb b i) (lt_z (pos (k * (task_at t b).period)) (pos a)) (ltb (g b) (g i))) (omega arith) (λ k low. at k (omega arith))
              where
                at : (k : ℕ) → k ≡ 0 → (ltb (k * (task_at t b).period) (suc x) && cond (eqb b i) (lt_z (pos (k * (task_at t b).period)) (pos a)) (ltb (g b) (g i))) ≡ true
                at k e = and_from (ltb (k * (task_at t b).period) (suc x)) (cond (eqb b i) (lt_z (pos (k * (task_at t b).period)) (pos a)) (ltb (g b) (g i))) (lt-ltb (k * (task_at t b).period) (suc x) (omega (arith, ap (λ z. z * (task_at t b).period) e, zero-mul (task_at t b).period))) (cond-false (eqb b i) (lt_z (pos (k * (task_at t b).period)) (pos a)) (ltb (g b) (g i)) other ∙ lt-ltb (g b) (g i) below)

        rest : sum_below (task_count s) (λ j. cond (eqb j b) 0 (mine j)) ≤ sum_below (task_count s) (λ j. cond (eqb j b) 0 (theirs j))
        rest = sum_mono (task_count s) (λ j. cond (eqb j b) 0 (mine j)) (λ j. cond (eqb j b) 0 (theirs j)) (λ j low. each j low (eqb j b))
          where
            each : (j : ℕ) → j < task_count s → (c : Bool) → cond c 0 (mine j) ≤ cond c 0 (theirs j)
            each j low true = omega arith
            each j low false = share_less j (suc x) (suc x) low (omega arith)

    block_of : TaskSet → (ℕ → ℕ) → ℕ → ℕ
    block_of u h j = cond (eqb j i) 0 (cond (cond (eqb i j) (lt_z (pos a) (negsuc 0)) (ltb (h i) (h j))) ((task_at u j).cost - 1) 0)

    -- what a task blocks by the level it stands at
    blocks : (u : TaskSet) (h : ℕ → ℕ) (j : ℕ) → eqb j i ≡ false → h i < h j → block_of u h j ≡ (task_at u j).cost - 1
    unfolding block_of
    blocks u h j other above =
        cond-false (eqb j i) 0 (cond (cond (eqb i j) (lt_z (pos a) (negsuc 0)) (ltb (h i) (h j))) ((task_at u j).cost - 1) 0) other
        ∙ cond-true (cond (eqb i j) (lt_z (pos a) (negsuc 0)) (ltb (h i) (h j))) ((task_at u j).cost - 1) 0 (cond-false (eqb i j) (lt_z (pos a) (negsuc 0)) (ltb (h i) (h j)) (ne_eqb i j (λ q. eqb-false j i other (sym q))) ∙ lt-ltb (h i) (h j) above)

    idle_blocks : (u : TaskSet) (h : ℕ → ℕ) (j : ℕ) → (eqb j i ≡ true) ⊎ ((eqb j i ≡ false) × (h j ≤ h i)) → block_of u h j ≡ 0
    unfolding block_of
    idle_blocks u h j (inl e) = cond-true (eqb j i) 0 (cond (cond (eqb i j) (lt_z (pos a) (negsuc 0)) (ltb (h i) (h j))) ((task_at u j).cost - 1) 0) e
    idle_blocks u h j (inr (other, low)) =
        cond-false (eqb j i) 0 (cond (cond (eqb i j) (lt_z (pos a) (negsuc 0)) (ltb (h i) (h j))) ((task_at u j).cost - 1) 0) other
        ∙ cond-false (cond (eqb i j) (lt_z (pos a) (negsuc 0)) (ltb (h i) (h j))) ((task_at u j).cost - 1) 0 (cond-false (eqb i j) (lt_z (pos a) (negsuc 0)) (ltb (h i) (h j)) (ne_eqb i j (λ q. eqb-false j i other (sym q))) ∙ le-ltb (h i) (h j) low)

    blocked_less : (x : ℕ) → blocking s (level_order f) i a + work_ahead s (level_order f) i a (suc x) ≤ blocking t (level_order g) i a + work_ahead t (level_order g) i a (suc x)
    unfolding block_of
    blocked_less x = go (max_taken (task_count s) (block_of s f))
      where
        go : (blocking s (level_order f) i a ≡ 0) ⊎ ((j : ℕ) × (j < task_count s) × (blocking s (level_order f) i a ≡ block_of s f j)) → blocking s (level_order f) i a + work_ahead s (level_order f) i a (suc x) ≤ blocking t (level_order g) i a + work_ahead t (level_order g) i a (suc x)
        go (inl e) = omega (arith, work_less (suc x) (suc x) (omega arith))
        go (inr (b, lt, e)) = two (cases_Bool (eqb b i)) (cases_lt (f i) (f b)) (cases_lt (g i) (g b))
          where
            two : (eqb b i ≡ true) ⊎ (eqb b i ≡ false) → (f i < f b) ⊎ (f b ≤ f i) → (g i < g b) ⊎ (g b ≤ g i) → blocking s (level_order f) i a + work_ahead s (level_order f) i a (suc x) ≤ blocking t (level_order g) i a + work_ahead t (level_order g) i a (suc x)
            two (inl q) v w = omega (arith, work_less (suc x) (suc x) (omega arith), e ∙ idle_blocks s f b (inl q))
            two (inr q) (inr v) w = omega (arith, work_less (suc x) (suc x) (omega arith), e ∙ idle_blocks s f b (inr (q, v)))
            two (inr q) (inl v) (inl w) = omega (
              arith,
              work_less (suc x) (suc x) (omega arith),
              e ∙ blocks s f b q v,
              alike.cost b,
              blocks t g b q w,
              max_at (task_count t) b (block_of t g) (omega (arith, alike.count)),
            )
            two (inr q) (inl v) (inr w) =
                let apart : g b ≡ g i → ⊥ = λ h. eqb-false b i q (alone b lt h) in
                omega (arith, e ∙ blocks s f b q v, behind_work b x lt q v (omega (arith, apart)))

    pub start_less : (x : ℕ) → until_start s (level_order f) i a x ≤ until_start t (level_order g) i a x
    start_less x = omega (arith, blocked_less x, ap (λ T. a / T * (task_at s i).cost) (alike.period i), ap (λ C. a / (task_at t i).period * C) (alike.cost i))

-- more time holds more work
pub start_grows : (s : TaskSet) (f : ℕ → ℕ) (i a x y : ℕ) → x ≤ y → until_start s (level_order f) i a x ≤ until_start s (level_order f) i a y
start_grows s f i a x y le = omega (arith, work_less s s f f i a (alike_self s) (λ j lt ne h. h) (suc x) (suc y) (omega arith))

pub finish_grows : (s : TaskSet) (f : ℕ → ℕ) (i a x y : ℕ) → x ≤ y → until_finish s (level_order f) i a x ≤ until_finish s (level_order f) i a y
finish_grows s f i a x y le = finish_less s s f f i a (alike_self s) (λ j lt ne h. h) x y le
