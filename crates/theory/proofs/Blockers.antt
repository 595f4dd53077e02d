-- The task that gives the blocking: it is another task of the table, its C is one more than the blocking, and none of its jobs from 0 on is ahead.
use Rattle.std.proofs.Common.{◌≡◌, ℕ, zero, suc, ◌-◌, ◌*◌, ◌<◌, Bool, true, false, cond, not, ◌&&◌, eqb, ltb, ◌⊎◌, pos, negsuc, sym, refl, ap, ◌∙◌, inl, inr, not-suc-le-zero, arith}
use Rattle.std.proofs.lemmas.Bool.{cases_eq, cases_Bool, cond-true, cond-false, eq-eqb, ne_eqb, eqb-true, eqb-false, lt-ltb, le-ltb, and_parts, and_from, and_right, both_ways, not-true, not_from_false}
use Rattle.table.specs.Rules.{TaskSet, task_at, task_count}
use Rattle.table.specs.declared.kinds.Mode.{Mode}
use Rattle.table.specs.declared.kinds.Mode.TheVariants.{NonPreemptive, Preemptive}
use Rattle.policy.specs.Order.{Order, job}
use Rattle.policy.specs.Laws.{Lawful}
use Rattle.theory.specs.Response.{jobs_ahead, blocking}
use Rattle.theory.specs.Course.{lead, blocker, blocks, blocking_in, course_blocking, least_below}
use Rattle.theory.proofs.Sums.{max_taken}
use Rattle.theory.proofs.Spread.{count_none}
use Rattle.theory.proofs.Orders.{ahead_before, job_task}

pub least_found : (n : ℕ) (p : ℕ → Bool) → ((least_below n p < n) × (p (least_below n p) ≡ true)) ⊎ ((least_below n p ≡ n) × ((k : ℕ) → k < n → p k ≡ false))
unfolding least_below
least_found zero p = inr (refl, λ k lt. absurd (not-suc-le-zero lt))
least_found (suc n) p = go (least_found n p) (cases_Bool (p n))
  where
    found : (x : ℕ) → least_below (suc n) p ≡ x → x < suc n → p x ≡ true → ((least_below (suc n) p < suc n) × (p (least_below (suc n) p) ≡ true)) ⊎ ((least_below (suc n) p ≡ suc n) × ((k : ℕ) → k < suc n → p k ≡ false))
    found x e lt h = inl (omega arith, ap p e ∙ h)

    go : ((least_below n p < n) × (p (least_below n p) ≡ true)) ⊎ ((least_below n p ≡ n) × ((k : ℕ) → k < n → p k ≡ false)) → (p n ≡ true) ⊎ (p n ≡ false)
        → ((least_below (suc n) p < suc n) × (p (least_below (suc n) p) ≡ true)) ⊎ ((least_below (suc n) p ≡ suc n) × ((k : ℕ) → k < suc n → p k ≡ false))
    go (inl (lt, h)) c = found (least_below n p) (cond-true (ltb (least_below n p) n) _ _ (lt-ltb (least_below n p) n lt)) (omega arith) h
    go (inr (e, none)) (inl h) = found n (cond-false (ltb (least_below n p) n) _ _ (le-ltb (least_below n p) n (omega arith)) ∙ cond-true (p n) n (suc n) h) (omega arith) h
    go (inr (e, none)) (inr h) = inr (cond-false (ltb (least_below n p) n) _ _ (le-ltb (least_below n p) n (omega arith)) ∙ cond-false (p n) n (suc n) h, λ k lt. last k lt (cases_eq k n))
      where
        last : (k : ℕ) → k < suc n → (k ≡ n) ⊎ (k ≡ n → ⊥) → p k ≡ false
        last k lt (inl q) = ap p q ∙ h
        last k lt (inr ne) = none k (omega (arith, ne))

pub record Blocker (s : TaskSet) (o : Order) (i a b : ℕ) : Type 0 where
  pub known : b < task_count s
  pub other : b ≡ i → ⊥
  pub behind : o.ahead (job i (pos a)) (job b (negsuc 0)) ≡ true
  pub cost : (task_at s b).cost ≡ suc (course_blocking s o i a)

module _ (s : TaskSet) (o : Order) (i a : ℕ) where
  -- where there is blocking some task gives it
  some : (m : Mode) → (blocking_in m s o i a ≡ 0 → ⊥) → (j : ℕ) × (j < task_count s) × ((not (eqb j i) && (o.ahead (job i (pos a)) (job j (negsuc 0)) && eqb ((task_at s j).cost - 1) (blocking_in m s o i a))) ≡ true)
  some Preemptive h = absurd (h refl)
  some NonPreemptive h = go (max_taken (task_count s) given)
    where
      given : ℕ → ℕ
      given j = cond (eqb j i) 0 (cond (o.ahead (job i (pos a)) (job j (negsuc 0))) ((task_at s j).cost - 1) 0)

      go : (blocking s o i a ≡ 0) ⊎ ((j : ℕ) × (j < task_count s) × (blocking s o i a ≡ given j)) → (j : ℕ) × (j < task_count s) × ((not (eqb j i) && (o.ahead (job i (pos a)) (job j (negsuc 0)) && eqb ((task_at s j).cost - 1) (blocking s o i a))) ≡ true)
      go (inl z) = absurd (h z)
      go (inr (j, lt, e)) = (j, lt, tests (cases_Bool (eqb j i)) (cases_Bool (o.ahead (job i (pos a)) (job j (negsuc 0)))))
        where
          tests : (eqb j i ≡ true) ⊎ (eqb j i ≡ false) → (o.ahead (job i (pos a)) (job j (negsuc 0)) ≡ true) ⊎ (o.ahead (job i (pos a)) (job j (negsuc 0)) ≡ false)
              → (not (eqb j i) && (o.ahead (job i (pos a)) (job j (negsuc 0)) && eqb ((task_at s j).cost - 1) (blocking s o i a))) ≡ true
          tests (inl x) y = absurd (h (e ∙ cond-true (eqb j i) _ _ x))
          tests (inr x) (inr y) = absurd (h (e ∙ cond-false (eqb j i) _ _ x ∙ cond-false (o.ahead (job i (pos a)) (job j (negsuc 0))) _ _ y))
          tests (inr x) (inl y) = and_from (not (eqb j i)) _ (not_from_false (eqb j i) x) (and_from (o.ahead (job i (pos a)) (job j (negsuc 0))) _ y
              (eq-eqb ((task_at s j).cost - 1) (blocking s o i a) (sym (e ∙ cond-false (eqb j i) _ _ x ∙ cond-true (o.ahead (job i (pos a)) (job j (negsuc 0))) _ _ y))))

  pub blocked : (lead s o i a ≡ 0 → ⊥) → course_blocking s o i a ≡ 0 → ⊥
  blocked h z = h (cond-true (eqb (course_blocking s o i a) 0) 0 1 (eq-eqb (course_blocking s o i a) 0 z))

  pub lead_one : (lead s o i a ≡ 0 → ⊥) → lead s o i a ≡ 1
  lead_one h = cond-false (eqb (course_blocking s o i a) 0) 0 1 (ne_eqb (course_blocking s o i a) 0 (blocked h))

  pub lead_none : course_blocking s o i a ≡ 0 → lead s o i a ≡ 0
  lead_none z = cond-true (eqb (course_blocking s o i a) 0) 0 1 (eq-eqb (course_blocking s o i a) 0 z)

  pub lead_some : (course_blocking s o i a ≡ 0 → ⊥) → lead s o i a ≡ 1
  lead_some ne = cond-false (eqb (course_blocking s o i a) 0) 0 1 (ne_eqb (course_blocking s o i a) 0 ne)

  pub the_blocker : (lead s o i a ≡ 0 → ⊥) → Blocker s o i a (blocker s o i a)
  the_blocker h = go (some s.mode (blocked h)) (least_found (task_count s) (blocks s o i a))
    where
      made : (b : ℕ) → b < task_count s → blocks s o i a b ≡ true → Blocker s o i a b
      made b lt e =
          let p = and_parts (not (eqb b i)) _ e in
          let q = and_parts (o.ahead (job i (pos a)) (job b (negsuc 0))) _ p.1 in
          let c = eqb-true ((task_at s b).cost - 1) (course_blocking s o i a) q.1 in
          record { known = lt; other = eqb-false b i (not-true (eqb b i) p.0); behind = q.0; cost = omega (arith, blocked h) }

      go : ((j : ℕ) × (j < task_count s) × (blocks s o i a j ≡ true)) → ((blocker s o i a < task_count s) × (blocks s o i a (blocker s o i a) ≡ true)) ⊎ ((blocker s o i a ≡ task_count s) × ((k : ℕ) → k < task_count s → blocks s o i a k ≡ false)) → Blocker s o i a (blocker s o i a)
      go (j, lt, e) (inl (b, f)) = made (blocker s o i a) b f
      go (j, lt, e) (inr (b, none)) = absurd (both_ways (blocks s o i a j) (none j lt) e)

  -- none of its jobs from 0 on is ahead
  module _ (law : Lawful s o) (hi : i < task_count s) (b : ℕ) (B : Blocker s o i a b) where
    never : (r : ℕ) → o.ahead (job b (pos r)) (job i (pos a)) ≡ false
    never r = go (cases_Bool (o.ahead (job b (pos r)) (job i (pos a))))
      where
        before : o.ahead (job b (negsuc 0)) (job i (pos a)) ≡ false
        before = law.total (job b (negsuc 0)) (job i (pos a)) B.known hi (λ e. B.other (job_task e)) ∙ ap not B.behind

        go : (o.ahead (job b (pos r)) (job i (pos a)) ≡ true) ⊎ (o.ahead (job b (pos r)) (job i (pos a)) ≡ false) → o.ahead (job b (pos r)) (job i (pos a)) ≡ false
        go (inl e) = absurd (both_ways (o.ahead (job b (negsuc 0)) (job i (pos a))) before (ahead_before s o law i b r a hi B.known B.other e))
        go (inr e) = e

    pub blocker_never : (t : ℕ) → jobs_ahead s o i a b t ≡ 0
    blocker_never t = count_none _ t (λ k lt. and_right (ltb (k * (task_at s b).period) t) _ (never (k * (task_at s b).period)))
