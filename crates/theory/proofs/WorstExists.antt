-- A response at an offset and a worst response are unique, and every task has a worst response.
use Rattle.std.proofs.Common.{◌≡◌, ℕ, zero, suc, ◌+◌, ◌-◌, ◌<◌, ◌≤◌, max, ◌⊎◌, sym, ap, ◌∙◌, subst, inl, inr, le_antisymm, arith}
use Rattle.std.proofs.lemmas.Bool.{cases_eq, cases_lt}
use Rattle.table.specs.Rules.{TaskSet, Checked, task_at, task_count}
use Rattle.table.specs.declared.kinds.Mode.{Mode}
use Rattle.table.specs.declared.kinds.Mode.TheVariants.{NonPreemptive, Preemptive}
use Rattle.policy.specs.Order.{Order}
use Rattle.policy.specs.Laws.{Lawful}
use Rattle.theory.specs.LeastSolution.{LeastSolution}
use Rattle.theory.specs.BusyPeriod.{BusyPeriod}
use Rattle.theory.specs.Response.{ResponseAt, ResponseIn}
use Rattle.theory.specs.Worst.{Worst}
use Rattle.theory.proofs.Existence.{response_exists}

pub one_solution : (low : ℕ) (W : ℕ → ℕ) (x y : ℕ) → LeastSolution low W x → LeastSolution low W y → x ≡ y
one_solution low W x y a b = le_antisymm (a.least y b.from b.solves) (b.least x a.from a.solves)

pub one_response : (s : TaskSet) (o : Order) (i a r q : ℕ) → ResponseAt s o i a r → ResponseAt s o i a q → r ≡ q
one_response s o i a r q = go s.mode
  where
    go : (m : Mode) → ResponseIn m s o i a r → ResponseIn m s o i a q → r ≡ q
    go Preemptive (F, x, e) (H, y, f) = e ∙ ap (λ z. max (task_at s i).cost (z - a)) (one_solution 1 _ F H x y) ∙ sym f
    go NonPreemptive (G, x, e) (H, y, f) = e ∙ ap (λ z. max (task_at s i).cost (z + (task_at s i).cost - a)) (one_solution 0 _ G H x y) ∙ sym f

pub one_worst : (s : TaskSet) (o : Order) (L i r a q b : ℕ) → Worst s o L i r a → Worst s o L i q b → (r ≡ q) × (a ≡ b)
one_worst s o L i r a q b x y =
    let same : r ≡ q = le_antisymm (y.longest a r x.inside x.given) (x.longest b q y.inside y.given) in
    (same, le_antisymm (x.least b y.inside (subst (λ v. ResponseAt s o i b v) (sym same) y.given)) (y.least a x.inside (subst (λ v. ResponseAt s o i a v) same x.given)))

-- the worst of the offsets below L, by the offsets below each m from 1 on
pub worst_exists : (s : TaskSet) (o : Order) (L i : ℕ) → Checked s → Lawful s o → BusyPeriod s L → i < task_count s → (r : ℕ) × (a : ℕ) × Worst s o L i r a
worst_exists s o L i checked law busy here = subst (λ m. (r : ℕ) × (a : ℕ) × Worst s o m i r a) (omega (arith, busy.from)) (upto (L - 1) (omega (arith, busy.from)))
  where
    at : (a : ℕ) → a < L → (r : ℕ) × ResponseAt s o i a r
    at a lt = response_exists s o checked law i a here L busy lt

    upto : (m : ℕ) → m < L → (r : ℕ) × (a : ℕ) × Worst s o (suc m) i r a
    upto zero lt = first (at 0 lt)
      where
        first : (r : ℕ) × ResponseAt s o i 0 r → (r : ℕ) × (a : ℕ) × Worst s o 1 i r a
        first (r, g) = (r, 0, record { inside = omega arith; given = g; longest = λ b q low h. only b q low h; least = λ b low h. omega arith })
          where
            only : (b q : ℕ) → b < 1 → ResponseAt s o i b q → q ≤ r
            only b q low h = omega (arith, one_response s o i 0 q r (subst (λ z. ResponseAt s o i z q) (omega arith) h) g)
    upto (suc m) lt = two (upto m (omega arith)) (at (suc m) lt)
      where
        two : (r : ℕ) × (a : ℕ) × Worst s o (suc m) i r a → (q : ℕ) × ResponseAt s o i (suc m) q → (r : ℕ) × (a : ℕ) × Worst s o (suc (suc m)) i r a
        two (r, a, best) (q, g) = three (cases_lt r q)
          where
            here_q : (p : ℕ) (b : ℕ) → b ≡ suc m → ResponseAt s o i b p → p ≡ q
            here_q p b e h = one_response s o i (suc m) p q (subst (λ z. ResponseAt s o i z p) e h) g

            three : (r < q) ⊎ (q ≤ r) → (r : ℕ) × (a : ℕ) × Worst s o (suc (suc m)) i r a
            three (inl more) = (q, suc m, record { inside = omega arith; given = g; longest = λ b p low h. longest b p low h (cases_eq b (suc m)); least = λ b low h. least b low h (cases_eq b (suc m)) })
              where
                longest : (b p : ℕ) → b < suc (suc m) → ResponseAt s o i b p → (b ≡ suc m) ⊎ (b ≡ suc m → ⊥) → p ≤ q
                longest b p low h (inl e) = omega (arith, here_q p b e h)
                longest b p low h (inr ne) = omega (arith, best.longest b p (omega (arith, ne)) h)

                least : (b : ℕ) → b < suc (suc m) → ResponseAt s o i b q → (b ≡ suc m) ⊎ (b ≡ suc m → ⊥) → suc m ≤ b
                least b low h (inl e) = omega arith
                least b low h (inr ne) = absurd (omega (arith, best.longest b q (omega (arith, ne)) h))
            three (inr most) = (r, a, record { inside = omega (arith, best.inside); given = best.given; longest = λ b p low h. longest b p low h (cases_eq b (suc m)); least = λ b low h. least b low h (cases_eq b (suc m)) })
              where
                longest : (b p : ℕ) → b < suc (suc m) → ResponseAt s o i b p → (b ≡ suc m) ⊎ (b ≡ suc m → ⊥) → p ≤ r
                longest b p low h (inl e) = omega (arith, here_q p b e h)
                longest b p low h (inr ne) = best.longest b p (omega (arith, ne)) h

                least : (b : ℕ) → b < suc (suc m) → ResponseAt s o i b r → (b ≡ suc m) ⊎ (b ≡ suc m → ⊥) → a ≤ b
                least b low h (inl e) = omega (arith, best.inside)
                least b low h (inr ne) = best.least b (omega (arith, ne)) h
