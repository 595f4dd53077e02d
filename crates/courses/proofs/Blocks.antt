-- What each task blocks, the longest of it, and the first task that blocks longest.
use Rattle.std.proofs.Common.{◌≡◌, ℕ, zero, suc, ◌-◌, ◌<◌, max, Bool, true, false, cond, not, ◌&&◌, eqb, ltb, map, Some, None, pos, negsuc, sym, refl, ap, ◌∙◌, inl, inr, ◌⊎◌, arith, add-one}
use Rattle.std.specs.List.{fold, range_with_len}
use Rattle.std.specs.Option.{unwrap_or}
use Rattle.std.proofs.lemmas.Bool.Decides.{nat_tests}
use Rattle.std.proofs.lemmas.List.Folds.{fold-map}
use Rattle.std.proofs.lemmas.List.FromFn.{map-range_with_len_more}
use Rattle.std.proofs.lemmas.List.Sums.{fold_push}
use Rattle.table.specs.Rules.{TaskSet, task_at, task_count}
use Rattle.table.specs.declared.kinds.Mode.{Mode}
use Rattle.table.specs.declared.kinds.Mode.TheVariants.{NonPreemptive, Preemptive}
use Rattle.policy.specs.Order.{Order, job}
use Rattle.theory.specs.Course.{blocking_in, course_blocking, blocks, blocker, least_below}
use Rattle.theory.specs.Response.{blocking}
use Rattle.theory.specs.Sums.{max_below}
use Rattle.theory.proofs.Sums.{max_cong, max_taken}
use Rattle.courses.specs.Courses.{block_at, blocker_of}
use Rattle.courses.proofs.Least.{least_found}

-- the maximum over the numbers below n, taken in turn
range_max : (h : ℕ → ℕ) (n : ℕ) → fold max 0 (map h (range_with_len 0 n)) ≡ max_below n h
unfolding max_below
range_max h zero = refl
range_max h (suc n) =
    ap (λ m. fold max 0 (map h (range_with_len 0 m))) (sym (add-one n))
    ∙ ap (fold max 0) (map-range_with_len_more h 0 n n (omega arith))
    ∙ fold_push max 0 (map h (range_with_len 0 n)) (h n)
    ∙ ap (λ m. max m (h n)) (range_max h n)

-- of what a task blocks: k, it is of the table; e, it is the task itself; h, its job is behind; c is its C - 1
value_of : (k e h : Bool) (c : ℕ) → k ≡ true → unwrap_or (cond (k && (not e && h)) (Some c) None) 0 ≡ cond e 0 (cond h c 0)
value_of true true h c q = refl
value_of true false true c q = refl
value_of true false false c q = refl
value_of false e h c q = absurd (cc)

has_value : (k e h : Bool) (c m : ℕ) → k ≡ true → m ≡ cond e 0 (cond h c 0) → (m ≡ 0 → ⊥) → cond (k && (not e && h)) (Some c) None ≡ Some m
has_value true true h c m q is some = absurd (some is)
has_value true false true c m q is some = ap Some (sym is)
has_value true false false c m q is some = absurd (some is)
has_value false e h c m q is some = absurd (cc)

blocks_where : (k e h : Bool) (c m : ℕ) → cond (k && (not e && h)) (Some c) None ≡ Some m → (not e && (h && eqb c m)) ≡ true
blocks_where true true h c m is = absurd (cc)
blocks_where true false true c m is = let same : c ≡ m = cc in grind (arith, nat_tests)
blocks_where true false false c m is = absurd (cc)
blocks_where false e h c m is = absurd (cc)

blocks_else : (k e h : Bool) (c m : ℕ) → k ≡ true → (cond (k && (not e && h)) (Some c) None ≡ Some m → ⊥) → (not e && (h && eqb c m)) ≡ false
blocks_else true true h c m q other = refl
blocks_else true false true c m q other = go (eqb c m) refl
  where
    go : (b : Bool) → eqb c m ≡ b → eqb c m ≡ false
    go true e = let same : c ≡ m = grind (arith, nat_tests) in absurd (other (ap Some same))
    go false e = e
blocks_else true false false c m q other = refl
blocks_else false e h c m q other = absurd (cc)

module _ (s : TaskSet) (o : Order) (i a : ℕ) where
  -- the longest of what the tasks block, taken in turn
  pub longest_is : fold (λ m j. max m (unwrap_or (block_at s o i a j) 0)) 0 (range_with_len 0 (task_count s)) ≡ blocking s o i a
  longest_is =
      let h : ℕ → ℕ = λ j. unwrap_or (block_at s o i a j) 0 in
      sym (fold-map max h 0 (range_with_len 0 (task_count s)))
      ∙ range_max h (task_count s)
      ∙ max_cong (task_count s) h (λ j. cond (eqb j i) 0 (cond (o.ahead (job i (pos a)) (job j (negsuc 0))) ((task_at s j).cost - 1) 0)) (λ j known. let here : ltb j (task_count s) ≡ true = grind (arith, nat_tests) in value_of (ltb j (task_count s)) (eqb j i) (o.ahead (job i (pos a)) (job j (negsuc 0))) ((task_at s j).cost - 1) here)

  -- where there is blocking a task gives it
  taken : (m : Mode) → (blocking_in m s o i a ≡ 0 → ⊥) → (j : ℕ) × (j < task_count s) × (block_at s o i a j ≡ Some (blocking_in m s o i a))
  taken Preemptive some = absurd (some refl)
  taken NonPreemptive some = go (max_taken (task_count s) f)
    where
      f : ℕ → ℕ
      f = λ j. cond (eqb j i) 0 (cond (o.ahead (job i (pos a)) (job j (negsuc 0))) ((task_at s j).cost - 1) 0)

      go : (max_below (task_count s) f ≡ 0) ⊎ ((j : ℕ) × (j < task_count s) × (max_below (task_count s) f ≡ f j)) → (j : ℕ) × (j < task_count s) × (block_at s o i a j ≡ Some (blocking s o i a))
      go (inl none) = absurd (some none)
      go (inr (j, known, is)) = (j, known, let here : ltb j (task_count s) ≡ true = grind (arith, nat_tests) in has_value (ltb j (task_count s)) (eqb j i) (o.ahead (job i (pos a)) (job j (negsuc 0))) ((task_at s j).cost - 1) (blocking s o i a) here is some)

  -- the first that gives the blocking is the blocker; there is one where there is blocking
  pub none_blocks : (course_blocking s o i a ≡ 0 → ⊥) → ((k : ℕ) → k < task_count s → block_at s o i a k ≡ Some (course_blocking s o i a) → ⊥) → ⊥
  none_blocks some none = let w = taken s.mode some in none w.0 w.1 w.2

  pub first_blocks : (j : ℕ) → (course_blocking s o i a ≡ 0 → ⊥) → j < task_count s → block_at s o i a j ≡ Some (course_blocking s o i a) → ((k : ℕ) → k < j → block_at s o i a k ≡ Some (course_blocking s o i a) → ⊥) → Some j ≡ blocker_of s o i a
  first_blocks j some known here before =
      let m = course_blocking s o i a in
      let first : least_below (task_count s) (blocks s o i a) ≡ j = least_found (task_count s) (blocks s o i a) j known (blocks_where (ltb j (task_count s)) (eqb j i) (o.ahead (job i (pos a)) (job j (negsuc 0))) ((task_at s j).cost - 1) m here) (λ k h. let inside : ltb k (task_count s) ≡ true = grind (arith, nat_tests) in blocks_else (ltb k (task_count s)) (eqb k i) (o.ahead (job i (pos a)) (job k (negsuc 0))) ((task_at s k).cost - 1) m inside (before k h)) in
      let no : eqb m 0 ≡ false = grind (arith, nat_tests) in
      ap Some (sym first) ∙ ap (λ b. cond (eqb (cond b 0 1) 0) None (Some (blocker s o i a))) (sym no)
