-- Sums over a list of jobs, taken task by task.
use Rattle.std.proofs.Common.{◌≡◌, ℕ, ◌+◌, ◌*◌, ◌<◌, Bool, true, false, cond, ◌&&◌, eqb, List, [], ◌∷◌, sym, refl, ap, ◌∙◌, subst, inl, inr, add-mul, zero-mul, arith}
use Rattle.std.proofs.lemmas.Bool.{and_left, eq-eqb, ne_eqb}
use Rattle.table.specs.Rules.{TaskSet, task_at, task_count}
use Rattle.theory.specs.Sums.{sum_below}
use Rattle.theory.specs.Lists.{In}
use Rattle.theory.specs.Machine.{Work, same_work}
use Rattle.theory.proofs.Sums.{sum_cong, sum_add, sum_zero, sum_single}
use Rattle.theory.proofs.Works.{Test, tests, asked, number, total, total_zero, Apart, same_swap}

-- the test for the jobs of task j alone
abbrev pub of_one : ℕ → Test → Test
of_one j p k r = eqb k j && p k r

-- the cost asked for is, task by task, the number of jobs times their cost
pub asked_by_task : (s : TaskSet) (p : Test) (ws : List Work) → ((w : Work) → In w ws → w.task < task_count s) → asked s p ws ≡ sum_below (task_count s) (λ j. number (of_one j p) ws * (task_at s j).cost)
unfolding total
asked_by_task s p [] known = sym (sum_zero (task_count s) (λ j. 0 * (task_at s j).cost) (λ j lt. zero-mul (task_at s j).cost))
asked_by_task s p (w ∷ ws) known = go (asked_by_task s p ws (λ v m. known v (inr m)))
  where
    mine : ℕ → ℕ
    mine j = cond (tests (of_one j p) w) 1 0 * (task_at s j).cost

    rest : ℕ → ℕ
    rest j = number (of_one j p) ws * (task_at s j).cost

    others : (j : ℕ) → j < task_count s → (j ≡ w.task → ⊥) → mine j ≡ 0
    others j lt ne = ap (λ b. cond b 1 0 * (task_at s j).cost) (and_left (eqb w.task j) (tests p w) (ne_eqb w.task j (λ e. ne (sym e)))) ∙ zero-mul (task_at s j).cost

    own : mine w.task ≡ cond (tests p w) (task_at s w.task).cost 0
    own = ap (λ b. cond (b && tests p w) 1 0 * (task_at s w.task).cost) (eq-eqb w.task w.task refl) ∙ times (tests p w)
      where
        times : (b : Bool) → cond b 1 0 * (task_at s w.task).cost ≡ cond b (task_at s w.task).cost 0
        times true = omega arith
        times false = zero-mul (task_at s w.task).cost

    go : asked s p ws ≡ sum_below (task_count s) rest → cond (tests p w) (task_at s w.task).cost 0 + asked s p ws ≡ sum_below (task_count s) (λ j. (cond (tests (of_one j p) w) 1 0 + number (of_one j p) ws) * (task_at s j).cost)
    go ih = omega (
      arith,
      own,
      sum_single (task_count s) w.task mine (known w (inl refl)) others,
      sum_add (task_count s) mine rest,
      sum_cong (task_count s) (λ j. (cond (tests (of_one j p) w) 1 0 + number (of_one j p) ws) * (task_at s j).cost) (λ j. mine j + rest j) (λ j lt. add-mul (cond (tests (of_one j p) w) 1 0) (number (of_one j p) ws) (task_at s j).cost),
    )

-- a sum in which one job alone counts
pub total_one : (f : Work → ℕ) (ws : List Work) → Apart ws → (w : Work) → In w ws → ((v : Work) → In v ws → same_work v w ≡ false → f v ≡ 0) → total f ws ≡ f w
unfolding total
total_one f [] far w m h = absurd m
total_one f (x ∷ xs) far w (inl e) h = omega (arith, ap f e, total_zero f xs (λ v k. h v (inr k) (subst (λ z. same_work v z ≡ false) (sym e) (far.0 v k))))
total_one f (x ∷ xs) far w (inr m) h = omega (arith, h x (inl refl) (same_swap w x (far.0 w m)), total_one f xs far.1 w m (λ v k d. h v (inr k) d))
