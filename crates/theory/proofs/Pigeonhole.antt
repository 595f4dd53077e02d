-- Releases of one task lie at least T apart, so N of them in a stretch need at least (N - 1)·T of it.
use Rattle.std.proofs.Common.{◌≡◌, ℕ, zero, suc, ◌+◌, ◌*◌, ◌≤◌, true, false, eqb, ◌⊎◌, List, [], ◌∷◌, sym, refl, ap, ◌∙◌, inl, inr, suc-mul, zero-mul, arith}
use Rattle.std.proofs.lemmas.Bool.{cases_Bool, cond-true, cond-false, and_parts, eqb-true}
use Rattle.table.specs.Rules.{TaskSet, task_at}
use Rattle.theory.specs.Lists.{In}
use Rattle.theory.specs.Machine.{Work}
use Rattle.theory.proofs.Works.{Test, tests, number, total}
use Rattle.theory.proofs.ByTask.{of_one}
use Rattle.theory.proofs.MachineFacts.{Spaced}

-- a job of task j that passes the test and lies N periods behind the base
abbrev pub Newest : TaskSet → ℕ → ℕ → Test → List Work → ℕ → Type 0
Newest s j base p ws N = (w : Work) × In w ws × (w.task ≡ j) × (tests p w ≡ true) × (base + N * (task_at s j).period ≤ w.release)

pub newest : (s : TaskSet) (j base : ℕ) (p : Test) (ws : List Work) → Spaced s ws → ((w : Work) → In w ws → tests p w ≡ true → base ≤ w.release) → (N : ℕ) → number (of_one j p) ws ≡ suc N → Newest s j base p ws N
unfolding total
newest s j base p [] far low N e = absurd (omega arith)
newest s j base p (w ∷ ws) far low N e = go (cases_Bool (tests (of_one j p) w)) (λ M d. newest s j base p ws far.1 (λ v m h. low v (inr m) h) M d)
  where
    more : (M : ℕ) → Newest s j base p ws M → Newest s j base p (w ∷ ws) M
    more M (v, m, t, h, le) = (v, inr m, t, h, le)

    go : (tests (of_one j p) w ≡ true) ⊎ (tests (of_one j p) w ≡ false) → ((M : ℕ) → number (of_one j p) ws ≡ suc M → Newest s j base p ws M) → Newest s j base p (w ∷ ws) N
    go (inr f) rest = more N (rest N (omega (arith, e, cond-false {A = ℕ} (tests (of_one j p) w) 1 0 f)))
    go (inl f) rest = (w, inl refl, mine, k.1, at N (omega (arith, e, cond-true {A = ℕ} (tests (of_one j p) w) 1 0 f)))
      where
        k : (eqb w.task j ≡ true) × (tests p w ≡ true)
        k = and_parts (eqb w.task j) (tests p w) f

        mine : w.task ≡ j
        mine = eqb-true w.task j k.0

        at : (M : ℕ) → number (of_one j p) ws ≡ M → base + M * (task_at s j).period ≤ w.release
        at zero d = omega (arith, zero-mul (task_at s j).period, low w (inl refl) k.1)
        at (suc M) d = two (rest M d)
          where
            two : Newest s j base p ws M → base + suc M * (task_at s j).period ≤ w.release
            two (v, m, t, h, le) = omega (arith, suc-mul M (task_at s j).period, far.0 v m (t ∙ sym mine), ap (λ z. (task_at s z).period) mine)

-- two jobs of one task are one, or at least T apart
pub spaced_two : (s : TaskSet) (ws : List Work) → Spaced s ws → (v w : Work) → In v ws → In w ws → v.task ≡ w.task → (v ≡ w) ⊎ ((v.release + (task_at s w.task).period ≤ w.release) ⊎ (w.release + (task_at s w.task).period ≤ v.release))
spaced_two s [] far v w m k e = absurd m
spaced_two s (x ∷ xs) far v w (inl m) (inl k) e = inl (m ∙ sym k)
spaced_two s (x ∷ xs) far v w (inl m) (inr k) e = inr (inr (omega (arith, far.0 w k (sym e ∙ ap (λ z. z.task) m), ap (λ z. z.release) m, ap (λ z. (task_at s z).period) (sym (ap (λ z. z.task) m) ∙ e))))
spaced_two s (x ∷ xs) far v w (inr m) (inl k) e = inr (inl (omega (arith, far.0 v m (e ∙ ap (λ z. z.task) k), ap (λ z. z.release) k, ap (λ z. (task_at s z.task).period) k)))
spaced_two s (x ∷ xs) far v w (inr m) (inr k) e = spaced_two s xs far.1 v w m k e
