-- What the laws of an order say of the jobs of a task set. `leads o i a j r`: the job of j released at r is the job of i released at a, or ahead of it.
use Rattle.std.proofs.Common.{◌≡◌, ℕ, suc, ◌+◌, ◌<◌, ◌≤◌, Bool, true, false, not, ◌&&◌, ◌||◌, eqb, ◌⊎◌, ℤ, pos, negsuc, sym, refl, ap, ◌∙◌, subst, inl, inr, arith, lt→ltb}
use lib.Signed.{lt_z_yes}
use Rattle.std.proofs.lemmas.Bool.Decides.{nat_tests}
use Rattle.std.proofs.lemmas.Int.{ints}
use Rattle.std.proofs.lemmas.Bool.{cases_eq, cases_lt, cases_Bool, eq-eqb, ne_eqb, eqb-true, both_ways, or_left, or_right, or_from, or_parts, and_parts, and_from, and_left, and_right, not-false}
use Rattle.table.specs.Rules.{TaskSet, task_count}
use Rattle.policy.specs.declared.job.Reach.{Reach}
use Rattle.policy.specs.declared.job.Reach.TheVariants.{Always, Never, Within}
use Rattle.policy.specs.Order.{Order, job, reaches}
use Rattle.policy.specs.Laws.{Lawful}

abbrev pub leads : Order → ℕ → ℕ → ℕ → ℕ → Bool
leads o i a j r = (eqb j i && eqb r a) || o.ahead (job j (pos r)) (job i (pos a))

-- reaches moved along
reach_shift : (ρ : Reach) (r a d : ℕ) → reaches ρ (pos (r + d)) (pos (a + d)) ≡ reaches ρ (pos r) (pos a)
reach_shift Always r a d = refl
reach_shift Never r a d = refl
reach_shift (Within (pos y)) r a d = grind (arith, ints, nat_tests)
reach_shift (Within (negsuc y)) r a d = grind (arith, ints, nat_tests)

reach_back : (ρ : Reach) (a d : ℕ) → reaches ρ (pos d) (pos (a + suc d)) ≡ reaches ρ (negsuc 0) (pos a)
reach_back Always a d = refl
reach_back Never a d = refl
reach_back (Within (pos y)) a d = grind (arith, ints, nat_tests)
reach_back (Within (negsuc y)) a d = grind (arith, ints, nat_tests)

reach_down : (ρ : Reach) (r q a : ℕ) → q ≤ r → reaches ρ (pos r) (pos a) ≡ true → reaches ρ (pos q) (pos a) ≡ true
reach_down Always r q a le h = refl
reach_down Never r q a le h = h
reach_down (Within (pos y)) r q a le h = grind (arith, ints, nat_tests)
reach_down (Within (negsuc y)) r q a le h = grind (arith, ints, nat_tests)

reach_before : (ρ : Reach) (r a : ℕ) → reaches ρ (pos r) (pos a) ≡ true → reaches ρ (negsuc 0) (pos a) ≡ true
reach_before Always r a h = refl
reach_before Never r a h = h
reach_before (Within (pos y)) r a h = refl
reach_before (Within (negsuc y)) r a h = grind (arith, ints, nat_tests)

pub job_task : {i j : ℕ} {r a : ℤ} → job j r ≡ job i a → j ≡ i
job_task e = ap (λ x. x.task) e

pub job_release : {i j r a : ℕ} → job j (pos r) ≡ job i (pos a) → r ≡ a
job_release e = ap (λ z. at z) (ap (λ x. x.release) e)
  where
    at : ℤ → ℕ
    at (pos n) = n
    at (negsuc n) = n

different : (i j r a : ℕ) → (eqb j i && eqb r a) ≡ false → job j (pos r) ≡ job i (pos a) → ⊥
different i j r a h e = both_ways (eqb j i && eqb r a) h (and_from (eqb j i) (eqb r a) (eq-eqb j i (job_task e)) (eq-eqb r a (job_release e)))

module _ (s : TaskSet) (o : Order) (law : Lawful s o) where
  -- a job leads itself
  pub leads_self : (i a : ℕ) → leads o i a i a ≡ true
  leads_self i a = or_left (eqb i i && eqb a a) (o.ahead (job i (pos a)) (job i (pos a))) (and_from (eqb i i) (eqb a a) (eq-eqb i i refl) (eq-eqb a a refl))

  -- of two jobs one leads the other
  pub leads_total : (i a j r : ℕ) → i < task_count s → j < task_count s → leads o i a j r ≡ false → leads o j r i a ≡ true
  leads_total i a j r hi hj h =
      let parts = or_parts (eqb j i && eqb r a) (o.ahead (job j (pos r)) (job i (pos a))) h in
      or_right (eqb i j && eqb a r) (o.ahead (job i (pos a)) (job j (pos r)))
      (not-false (o.ahead (job i (pos a)) (job j (pos r))) (sym (law.total (job j (pos r)) (job i (pos a)) hj hi (different i j r a parts.0)) ∙ parts.1))

  pub leads_trans : (i a j r k q : ℕ) → i < task_count s → j < task_count s → k < task_count s → leads o i a j r ≡ true → leads o j r k q ≡ true → leads o i a k q ≡ true
  leads_trans i a j r k q hi hj hk h g = go (cases_Bool (eqb j i && eqb r a)) (cases_Bool (eqb k j && eqb q r))
    where
      same : (x y u v : ℕ) → (eqb x u && eqb y v) ≡ true → (x ≡ u) × (y ≡ v)
      same x y u v e = let p = and_parts (eqb x u) (eqb y v) e in (eqb-true x u p.0, eqb-true y v p.1)

      rest : (x y : Bool) → x ≡ false → (x || y) ≡ true → y ≡ true
      rest true y e f = absurd (both_ways true e refl)
      rest false y e f = f

      go : ((eqb j i && eqb r a) ≡ true) ⊎ ((eqb j i && eqb r a) ≡ false) → ((eqb k j && eqb q r) ≡ true) ⊎ ((eqb k j && eqb q r) ≡ false) → leads o i a k q ≡ true
      go (inl e) d = let p = same j r i a e in subst (λ z. leads o z a k q ≡ true) p.0 (subst (λ z. leads o j z k q ≡ true) p.1 g)
      go (inr e) (inl f) = let p = same k q j r f in subst (λ z. leads o i a z q ≡ true) (sym p.0) (subst (λ z. leads o i a j z ≡ true) (sym p.1) h)
      go (inr e) (inr f) = or_right (eqb k i && eqb q a) (o.ahead (job k (pos q)) (job i (pos a)))
          (law.transitive (job k (pos q)) (job j (pos r)) (job i (pos a)) hk hj hi (different j k q r f) (different i j r a e) (rest (eqb k j && eqb q r) _ f g) (rest (eqb j i && eqb r a) _ e h))

  -- of one task the earlier jobs lead, and no later one
  pub leads_own : (i a r : ℕ) → i < task_count s → r ≤ a → leads o i a i r ≡ true
  leads_own i a r hi le = go (cases_eq r a)
    where
      go : (r ≡ a) ⊎ (r ≡ a → ⊥) → leads o i a i r ≡ true
      go (inl e) = or_left (eqb i i && eqb r a) _ (and_from (eqb i i) (eqb r a) (eq-eqb i i refl) (eq-eqb r a e))
      go (inr ne) = or_right (eqb i i && eqb r a) _ (law.earlier_first i (pos r) (pos a) hi (lt_z_yes (lt→ltb r a (omega (arith, ne)))))

  pub leads_own_only : (i a r : ℕ) → i < task_count s → leads o i a i r ≡ true → r ≤ a
  leads_own_only i a r hi h = go (cases_lt a r)
    where
      wrong : a < r → leads o i a i r ≡ false
      wrong lt = or_from (eqb i i && eqb r a) (o.ahead (job i (pos r)) (job i (pos a))) (and_right (eqb i i) (eqb r a) (ne_eqb r a (λ e. omega arith)))
          (law.total (job i (pos r)) (job i (pos a)) hi hi (λ e. omega (arith, job_release e)) ∙ ap not (law.earlier_first i (pos a) (pos r) hi (lt_z_yes (lt→ltb a r lt))))

      go : (a < r) ⊎ (r ≤ a) → r ≤ a
      go (inl lt) = absurd (both_ways (leads o i a i r) (wrong lt) h)
      go (inr le) = le

  -- of another task it is the order alone, and that is the reach
  pub leads_other : (i a j r : ℕ) → (j ≡ i → ⊥) → leads o i a j r ≡ o.ahead (job j (pos r)) (job i (pos a))
  leads_other i a j r ne = ap (λ b. b || o.ahead (job j (pos r)) (job i (pos a))) (and_left (eqb j i) (eqb r a) (ne_eqb j i ne))

  -- moved by d ticks
  pub ahead_shift : (i j r a d : ℕ) → i < task_count s → j < task_count s → (j ≡ i → ⊥) → o.ahead (job j (pos (r + d))) (job i (pos (a + d))) ≡ o.ahead (job j (pos r)) (job i (pos a))
  ahead_shift i j r a d hi hj ne = law.reach_rule i j (pos (r + d)) (pos (a + d)) hi hj (λ e. ne (sym e)) ∙ reach_shift (o.reach i j) r a d ∙ sym (law.reach_rule i j (pos r) (pos a) hi hj (λ e. ne (sym e)))

  -- the job at d beside a job at a + d + 1 is as the job at -1 beside the job at a
  pub ahead_back : (i j a d : ℕ) → i < task_count s → j < task_count s → (j ≡ i → ⊥) → o.ahead (job j (pos d)) (job i (pos (a + suc d))) ≡ o.ahead (job j (negsuc 0)) (job i (pos a))
  ahead_back i j a d hi hj ne = law.reach_rule i j (pos d) (pos (a + suc d)) hi hj (λ e. ne (sym e)) ∙ reach_back (o.reach i j) a d ∙ sym (law.reach_rule i j (negsuc 0) (pos a) hi hj (λ e. ne (sym e)))

  -- what is ahead at a tick from 0 on is ahead at -1
  pub ahead_before : (i j r a : ℕ) → i < task_count s → j < task_count s → (j ≡ i → ⊥) → o.ahead (job j (pos r)) (job i (pos a)) ≡ true → o.ahead (job j (negsuc 0)) (job i (pos a)) ≡ true
  ahead_before i j r a hi hj ne h = law.reach_rule i j (negsuc 0) (pos a) hi hj (λ e. ne (sym e)) ∙ reach_before (o.reach i j) r a (sym (law.reach_rule i j (pos r) (pos a) hi hj (λ e. ne (sym e))) ∙ h)

  -- of jobs at -1 and at a of two tasks one is ahead
  pub behind_back : (i j a : ℕ) → i < task_count s → j < task_count s → (j ≡ i → ⊥) → o.ahead (job j (negsuc 0)) (job i (pos a)) ≡ false → o.ahead (job i (pos a)) (job j (negsuc 0)) ≡ true
  behind_back i j a hi hj ne h = law.total (job i (pos a)) (job j (negsuc 0)) hi hj (λ e. ne (sym (job_task e))) ∙ ap not h

  -- a job that leads still leads if it is released earlier
  pub leads_down : (i a j r q : ℕ) → i < task_count s → j < task_count s → q ≤ r → leads o i a j r ≡ true → leads o i a j q ≡ true
  leads_down i a j r q hi hj le h = go (cases_eq j i)
    where
      go : (j ≡ i) ⊎ (j ≡ i → ⊥) → leads o i a j q ≡ true
      go (inl e) = subst (λ z. leads o i a z q ≡ true) (sym e) (leads_own i a q hi (omega (arith, leads_own_only i a r hi (subst (λ z. leads o i a z r ≡ true) e h))))
      go (inr ne) = leads_other i a j q ne ∙ law.reach_rule i j (pos q) (pos a) hi hj (λ e. ne (sym e))
          ∙ reach_down (o.reach i j) r q a le (sym (law.reach_rule i j (pos r) (pos a) hi hj (λ e. ne (sym e))) ∙ sym (leads_other i a j r ne) ∙ h)

  -- a job that does not lead does not lead if it is released later
  pub leads_never : (i a j r q : ℕ) → i < task_count s → j < task_count s → r ≤ q → leads o i a j r ≡ false → leads o i a j q ≡ false
  leads_never i a j r q hi hj le h = go (cases_Bool (leads o i a j q))
    where
      go : (leads o i a j q ≡ true) ⊎ (leads o i a j q ≡ false) → leads o i a j q ≡ false
      go (inl e) = absurd (both_ways (leads o i a j r) h (leads_down i a j q r hi hj le e))
      go (inr e) = e
