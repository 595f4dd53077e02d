-- Jobs of a list whose keys are apart: one key is one job; and sums of a list task by task.
use Rattle.std.proofs.Common.{◌≡◌, ℕ, ◌*◌, ◌<◌, ◌≤◌, Bool, true, false, cond, eqb, ◌⊎◌, List, [], ◌∷◌, sym, refl, inl, inr, add-mul, arith}
use Rattle.std.proofs.lemmas.Bool.{cases_Bool, cond-true, cond-false, eq-eqb, ne_eqb}
use Rattle.theory.specs.Sums.{sum_below}
use Rattle.theory.specs.Lists.{In}
use Rattle.theory.specs.Machine.{Work}
use Rattle.theory.proofs.Sums.{sum_add, sum_single, sum_zero}
use Rattle.theory.proofs.Works.{total, total_at, Apart, same_from, same_one, Test, tests, number}

pub one_job : (ws : List Work) → Apart ws → (v w : Work) → In v ws → In w ws → v.task ≡ w.task → v.release ≡ w.release → v ≡ w
one_job ws apart v w m k e f = same_one ws apart v w m k (same_from v w e f)

pub by_task : (n : ℕ) (f : Work → ℕ) (ws : List Work) → ((w : Work) → In w ws → w.task < n) → sum_below n (λ j. total (λ w. cond (eqb w.task j) (f w) 0) ws) ≡ total f ws
unfolding total
by_task n f [] known = sum_zero n (λ j. 0) (λ j lt. refl)
by_task n f (w ∷ ws) known = omega (
  arith,
  sum_add n (λ j. cond (eqb w.task j) (f w) 0) (λ j. total (λ v. cond (eqb v.task j) (f v) 0) ws),
  by_task n f ws (λ v m. known v (inr m)),
  sum_single n w.task (λ j. cond (eqb w.task j) (f w) 0) (known w (inl refl)) (λ j lt ne. cond-false (eqb w.task j) (f w) 0 (ne_eqb w.task j (λ e. ne (sym e)))),
  cond-true (eqb w.task w.task) (f w) 0 (eq-eqb w.task w.task refl),
)

-- a cost for each that passes
pub scaled : (p : Test) (c : ℕ) (ws : List Work) → total (λ w. cond (tests p w) c 0) ws ≡ number p ws * c
unfolding total
scaled p c [] = omega arith
scaled p c (w ∷ ws) = omega (arith, scaled p c ws, one (tests p w), add-mul (cond (tests p w) 1 0) (number p ws) c)
  where
    one : (b : Bool) → cond b c 0 ≡ cond b 1 0 * c
    one true = omega arith
    one false = omega arith

-- some job passes
pub number_in : (p : Test) (ws : List Work) → 1 ≤ number p ws → (w : Work) × In w ws × (tests p w ≡ true)
unfolding total
number_in p [] h = absurd (omega arith)
number_in p (w ∷ ws) h = go (cases_Bool (tests p w)) (number_in p ws)
  where
    go : (tests p w ≡ true) ⊎ (tests p w ≡ false) → (1 ≤ number p ws → (v : Work) × In v ws × (tests p v ≡ true)) → (v : Work) × In v (w ∷ ws) × (tests p v ≡ true)
    go (inl e) rest = (w, inl refl, e)
    go (inr e) rest = let r = rest (omega (arith, cond-false {A = ℕ} (tests p w) 1 0 e)) in (r.0, inr r.1, r.2)

pub in_number : (p : Test) (ws : List Work) (w : Work) → In w ws → tests p w ≡ true → 1 ≤ number p ws
in_number p ws w m e = omega (arith, total_at (λ v. cond (tests p v) 1 0) ws w m, cond-true {A = ℕ} (tests p w) 1 0 e)
