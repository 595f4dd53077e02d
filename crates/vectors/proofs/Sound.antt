-- What is checked by computing holds.
use Rattle.std.proofs.Common.{◌≡◌, ℕ, zero, suc, ◌+◌, ◌<◌, ◌≤◌, Bool, true, false, cond, not, ◌&&◌, ◌||◌, eqb, ltb, leb, ◌⊎◌, List, [], ◌∷◌, length, sym, refl, ◌∙◌, subst, inl, inr, arith}
use Rattle.std.proofs.lemmas.Bool.{and_parts, or_cases, not-true, ltb-true, leb-true, leb-false, eqb-true, eqb-false, le-ltb, lt-ltb, true≢false, cases_eq, cases_lt, cases_Bool, cond-true, cond-false}
use Rattle.table.specs.Rules.{TaskSet, task_at, task_count, follows_rules}
use Rattle.table.specs.declared.kinds.Mode.{Mode}
use Rattle.table.specs.declared.kinds.Mode.TheVariants.{NonPreemptive, Preemptive}
use Rattle.policy.specs.Order.{Order}
use Rattle.theory.specs.BusyPeriod.{load}
use Rattle.theory.specs.Guarantee.{LateBy}
use Rattle.theory.specs.LeastSolution.{LeastSolution}
use Rattle.theory.specs.Response.{until_finish, until_start, ResponseIn, ResponseAt}
use Rattle.theory.specs.Worst.{Worst}
use Rattle.theory.proofs.WorstExists.{one_response}
use Rattle.vectors.specs.Lines.{RowsFrom, JudgedAs, AdmittedAs, LateAs}
use Rattle.vectors.proofs.Checks.{all_below, least_is, window, window_is, response, fits, worst_is, rows_are, line_is, all_meet}

all_at : (n : ℕ) (p : ℕ → Bool) → all_below n p ≡ true → (k : ℕ) → k < n → p k ≡ true
unfolding all_below
all_at zero p h k lt = absurd (omega arith)
all_at (suc n) p h k lt = let parts = and_parts (p n) (all_below n p) h in go (cases_eq k n) parts.0 (λ less. all_at n p parts.1 k less)
  where
    go : (k ≡ n) ⊎ (k ≡ n → ⊥) → p n ≡ true → (k < n → p k ≡ true) → p k ≡ true
    go (inl e) here there = subst (λ z. p z ≡ true) (sym e) here
    go (inr ne) here there = there (omega (arith, ne))

pub least_found : (low : ℕ) (W : ℕ → ℕ) (t : ℕ) → least_is low W t ≡ true → LeastSolution low W t
least_found low W t h =
    let one = and_parts (leb low t) (eqb t (W t) && all_below t (λ v. ltb v low || not (eqb v (W v)))) h in
    let two = and_parts (eqb t (W t)) (all_below t (λ v. ltb v low || not (eqb v (W v)))) one.1 in
    record { from = leb-true low t one.0; solves = eqb-true t (W t) two.0; least = λ v from solves. least v from solves two.1 (cases_lt v t) }
  where
    apart : (v : ℕ) → low ≤ v → v ≡ W v → (ltb v low ≡ true) ⊎ (not (eqb v (W v)) ≡ true) → ⊥
    apart v from solves (inl e) = omega (arith, ltb-true v low e)
    apart v from solves (inr e) = eqb-false v (W v) (not-true (eqb v (W v)) e) solves

    least : (v : ℕ) → low ≤ v → v ≡ W v → all_below t (λ v. ltb v low || not (eqb v (W v))) ≡ true → (v < t) ⊎ (t ≤ v) → t ≤ v
    least v from solves none (inl lt) = absurd (apart v from solves (or_cases (ltb v low) (not (eqb v (W v))) (all_at t (λ v. ltb v low || not (eqb v (W v))) none v lt)))
    least v from solves none (inr ge) = ge

responds : (m : Mode) (s : TaskSet) (o : Order) (i a t : ℕ) → window_is m s o i a t ≡ true → ResponseIn m s o i a (response m s i a t)
unfolding window_is response
responds Preemptive s o i a t h = (t, least_found 1 (until_finish s o i a) t h, refl)
responds NonPreemptive s o i a t h = (t, least_found 0 (until_start s o i a) t h, refl)

module _ (s : TaskSet) (o : Order) (L i r a : ℕ) where
  at_offset : (b t : ℕ) → fits s.mode s o i r a b t ≡ true → (q : ℕ) → ResponseAt s o i b q → (q ≤ r) × (q ≡ r → a ≤ b)
  at_offset b t h q given = go (and_parts (window_is s.mode s o i b t) (cond (ltb b a) (ltb (response s.mode s i b t) r) (leb (response s.mode s i b t) r)) h)
    where
      go : (window_is s.mode s o i b t ≡ true) × (cond (ltb b a) (ltb (response s.mode s i b t) r) (leb (response s.mode s i b t) r) ≡ true) → (q ≤ r) × (q ≡ r → a ≤ b)
      go (w, c) = by (cases_lt b a)
        where
          same : q ≡ response s.mode s i b t
          same = one_response s o i b q (response s.mode s i b t) given (responds s.mode s o i b t w)

          by : (b < a) ⊎ (a ≤ b) → (q ≤ r) × (q ≡ r → a ≤ b)
          by (inl lt) = let less = ltb-true (response s.mode s i b t) r (sym (cond-true (ltb b a) (ltb (response s.mode s i b t) r) (leb (response s.mode s i b t) r) (lt-ltb b a lt)) ∙ c) in (omega (arith, same, less), λ e. absurd (omega (arith, same, less)))
          by (inr ge) = let most = leb-true (response s.mode s i b t) r (sym (cond-false (ltb b a) (ltb (response s.mode s i b t) r) (leb (response s.mode s i b t) r) (le-ltb b a ge)) ∙ c) in (omega (arith, same, most), λ e. ge)

  pub worst_found : worst_is s.mode s o L i r a ≡ true → Worst s o L i r a
  worst_found h =
      let one = and_parts (ltb a L) (eqb r (response s.mode s i a (window s.mode s o i a)) && all_below L (λ b. fits s.mode s o i r a b (window s.mode s o i b))) h in
      let two = and_parts (eqb r (response s.mode s i a (window s.mode s o i a))) (all_below L (λ b. fits s.mode s o i r a b (window s.mode s o i b))) one.1 in
      made (ltb-true a L one.0) (eqb-true r (response s.mode s i a (window s.mode s o i a)) two.0) (all_at L (λ b. fits s.mode s o i r a b (window s.mode s o i b)) two.1)
    where
      made : a < L → r ≡ response s.mode s i a (window s.mode s o i a) → ((b : ℕ) → b < L → fits s.mode s o i r a b (window s.mode s o i b) ≡ true) → Worst s o L i r a
      made inside e all = record {
        inside = inside;
        given = subst (λ z. ResponseIn s.mode s o i a z) (sym e) (responds s.mode s o i a (window s.mode s o i a) (and_parts (window_is s.mode s o i a (window s.mode s o i a)) (cond (ltb a a) (ltb (response s.mode s i a (window s.mode s o i a)) r) (leb (response s.mode s i a (window s.mode s o i a)) r)) (all a inside)).0);
        longest = λ b q lt given. (at_offset b (window s.mode s o i b) (all b lt) q given).0;
        least = λ b lt given. (at_offset b (window s.mode s o i b) (all b lt) r given).1 refl;
      }

rows_found : (s : TaskSet) (o : Order) (L i : ℕ) (xs : List (ℕ × ℕ)) → rows_are s o L i xs ≡ true → RowsFrom s o L i xs
unfolding rows_are
rows_found s o L i [] h = eqb-true i (task_count s) h
rows_found s o L i (x ∷ xs) h = let parts = and_parts (worst_is s.mode s o L i x.0 x.1) (rows_are s o L (suc i) xs) h in (worst_found s o L i x.0 x.1 parts.0, rows_found s o L (suc i) xs parts.1)

judged : (order : TaskSet → Order) (s : TaskSet) (L : ℕ) (xs : List (ℕ × ℕ)) → line_is s (order s) L xs ≡ true → JudgedAs order s L xs
unfolding line_is
judged order s L xs h =
    let one = and_parts (follows_rules s.policy s.band s.tasks) (least_is 1 (load s) L && rows_are s (order s) L 0 xs) h in
    let two = and_parts (least_is 1 (load s) L) (rows_are s (order s) L 0 xs) one.1 in
    record { checked = one.0; busy = least_found 1 (load s) L two.0; worst = rows_found s (order s) L 0 xs two.1 }

-- one row for each task
rows_end : (s : TaskSet) (o : Order) (L i : ℕ) (xs : List (ℕ × ℕ)) → RowsFrom s o L i xs → i + length xs ≡ task_count s
rows_end s o L i [] rows = omega (arith, rows)
rows_end s o L i (x ∷ xs) rows = omega (arith, rows_end s o L (suc i) xs rows.1)

meets : (s : TaskSet) (o : Order) (L i : ℕ) (xs : List (ℕ × ℕ)) → RowsFrom s o L i xs → all_meet s i xs ≡ true → (k r a : ℕ) → i ≤ k → k < task_count s → Worst s o L k r a → r ≤ (task_at s k).deadline
unfolding all_meet
meets s o L i [] rows h k r a from here w = absurd (omega (arith, rows))
meets s o L i (x ∷ xs) rows h k r a from here w =
    let parts = and_parts (leb x.0 (task_at s i).deadline) (all_meet s (suc i) xs) h in
    go (cases_eq k i) (leb-true x.0 (task_at s i).deadline parts.0) (λ later. meets s o L (suc i) xs rows.1 parts.1 k r a later here w)
  where
    go : (k ≡ i) ⊎ (k ≡ i → ⊥) → x.0 ≤ (task_at s i).deadline → (suc i ≤ k → r ≤ (task_at s k).deadline) → r ≤ (task_at s k).deadline
    go (inl e) meet rest = subst (λ z. r ≤ (task_at s z).deadline) (sym e) (omega (arith, meet, rows.0.longest a r w.inside (subst (λ z. ResponseAt s o z a r) e w.given)))
    go (inr ne) meet rest = rest (omega (arith, ne))

misses : (s : TaskSet) (o : Order) (L i : ℕ) (xs : List (ℕ × ℕ)) → RowsFrom s o L i xs → all_meet s i xs ≡ false → LateBy s o L
unfolding all_meet
misses s o L i [] rows h = absurd (true≢false h)
misses s o L i (x ∷ xs) rows h = go (cases_Bool (leb x.0 (task_at s i).deadline)) (λ rest. misses s o L (suc i) xs rows.1 rest)
  where
    go : (leb x.0 (task_at s i).deadline ≡ true) ⊎ (leb x.0 (task_at s i).deadline ≡ false) → (all_meet s (suc i) xs ≡ false → LateBy s o L) → LateBy s o L
    go (inl e) rest = rest (sym (cond_rest (leb x.0 (task_at s i).deadline) (all_meet s (suc i) xs) e) ∙ h)
      where
        cond_rest : (b c : Bool) → b ≡ true → (b && c) ≡ c
        cond_rest true c e = refl
        cond_rest false c e = absurd (true≢false (sym e))
    go (inr e) rest = (i, x.0, x.1, omega (arith, rows_end s o L i (x ∷ xs) rows), rows.0, leb-false x.0 (task_at s i).deadline e)

pub admitted : (order : TaskSet → Order) (s : TaskSet) (L : ℕ) (xs : List (ℕ × ℕ)) → line_is s (order s) L xs ≡ true → all_meet s 0 xs ≡ true → AdmittedAs order s L xs
admitted order s L xs h m = let j = judged order s L xs h in (j, λ i r a here w. meets s (order s) L 0 xs j.worst m i r a (omega arith) here w)

pub late : (order : TaskSet → Order) (s : TaskSet) (L : ℕ) (xs : List (ℕ × ℕ)) → line_is s (order s) L xs ≡ true → all_meet s 0 xs ≡ false → LateAs order s L xs
late order s L xs h m = let j = judged order s L xs h in (j, misses s (order s) L 0 xs j.worst m)
