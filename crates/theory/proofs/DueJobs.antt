-- The jobs due by t when every task releases at 1 and then as often as it may: a list, spaced, whose cost is the demand by t.
use Rattle.std.proofs.Common.{◌≡◌, ℕ, zero, suc, ◌+◌, ◌-◌, ◌*◌, ◌/◌, ◌<◌, ◌≤◌, Bool, true, false, cond, leb, ◌⊎◌, List, [], ◌∷◌, ◌++◌, sym, refl, ap, ◌∙◌, subst, inl, inr, mul-le-mul_right, suc-mul, le-div_iff_mul-le, zero-mul, arith}
use Rattle.std.proofs.lemmas.Bool.{cases_Bool, cond-true, cond-false, leb-true, le-leb}
use Rattle.table.specs.Rules.{TaskSet, Checked, task_at, task_count}
use Rattle.table.proofs.Ranges.{task_ranges}
use Rattle.theory.specs.Sums.{sum_below}
use Rattle.theory.specs.Lists.{In}
use Rattle.theory.specs.Machine.{Work}
use Rattle.theory.specs.DemandCriterion.{demand}
use Rattle.theory.proofs.Sums.{sum_cong}
use Rattle.theory.proofs.Works.{total, asked}
use Rattle.theory.proofs.MachineFacts.{Spaced}

abbrev pub new_work : ℕ → ℕ → Work
new_work j r = record { task = j; release = r; ran = 0; finished = false; response = 0 }

-- the cost of the jobs from x on
abbrev pub left : TaskSet → ℕ → List Work → ℕ
left s x ws = asked s (λ j r. leb x r) ws

in_append : (w : Work) (xs ys : List Work) → In w (xs ++ ys) → In w xs ⊎ In w ys
in_append w [] ys m = inr m
in_append w (x ∷ xs) ys (inl e) = inl (inl e)
in_append w (x ∷ xs) ys (inr m) = go (in_append w xs ys m)
  where
    go : In w xs ⊎ In w ys → In w (x ∷ xs) ⊎ In w ys
    go (inl k) = inl (inr k)
    go (inr k) = inr k

total_append : (f : Work → ℕ) (xs ys : List Work) → total f (xs ++ ys) ≡ total f xs + total f ys
unfolding total
total_append f [] ys = omega arith
total_append f (x ∷ xs) ys = omega (arith, total_append f xs ys)

spaced_append : (s : TaskSet) (xs ys : List Work) → Spaced s xs → Spaced s ys → ((v w : Work) → In w xs → In v ys → v.task ≡ w.task → ⊥) → Spaced s (xs ++ ys)
spaced_append s [] ys a b apart = b
spaced_append s (x ∷ xs) ys a b apart = ((λ v m e. go v e (in_append v xs ys m)), spaced_append s xs ys a.1 b (λ v w m k. apart v w (inr m) k))
  where
    go : (v : Work) → v.task ≡ x.task → In v xs ⊎ In v ys → v.release + (task_at s x.task).period ≤ x.release
    go v e (inl m) = a.0 v m e
    go v e (inr m) = absurd (apart v x (inl refl) m e)

module _ (s : TaskSet) where
  -- c jobs of task j, the newest first
  unfoldable pub jobs_of : ℕ → ℕ → List Work
  jobs_of j zero = []
  jobs_of j (suc c) = new_work j (1 + c * (task_at s j).period) ∷ jobs_of j c

  abbrev pub how_many_due : ℕ → ℕ → ℕ
  how_many_due t j = cond (leb (task_at s j).deadline t) (1 + (t - (task_at s j).deadline) / (task_at s j).period) 0

  unfoldable pub due_below : ℕ → ℕ → List Work
  due_below t zero = []
  due_below t (suc n) = jobs_of n (how_many_due t n) ++ due_below t n

  abbrev pub due_jobs : ℕ → List Work
  due_jobs t = due_below t (task_count s)

  jobs_of_in : (j c : ℕ) (w : Work) → In w (jobs_of j c) → (k : ℕ) × (k < c) × (w ≡ new_work j (1 + k * (task_at s j).period))
  unfolding jobs_of
  jobs_of_in j zero w m = absurd m
  jobs_of_in j (suc c) w (inl e) = (c, omega arith, e)
  jobs_of_in j (suc c) w (inr m) = let r = jobs_of_in j c w m in (r.0, omega (arith, r.1), r.2)

  due_in : (t n : ℕ) (w : Work) → In w (due_below t n) → (j : ℕ) × (k : ℕ) × (j < n) × (k < how_many_due t j) × (w ≡ new_work j (1 + k * (task_at s j).period))
  unfolding due_below
  due_in t zero w m = absurd m
  due_in t (suc n) w m = go (in_append w (jobs_of n (how_many_due t n)) (due_below t n) m) (λ k. due_in t n w k)
    where
      go : In w (jobs_of n (how_many_due t n)) ⊎ In w (due_below t n) → (In w (due_below t n) → (j : ℕ) × (k : ℕ) × (j < n) × (k < how_many_due t j) × (w ≡ new_work j (1 + k * (task_at s j).period))) → (j : ℕ) × (k : ℕ) × (j < suc n) × (k < how_many_due t j) × (w ≡ new_work j (1 + k * (task_at s j).period))
      go (inl k) rest = let r = jobs_of_in n (how_many_due t n) w k in (n, r.0, omega arith, r.1, r.2)
      go (inr k) rest = let r = rest k in (r.0, r.1, omega (arith, r.2), r.3, r.4)

  jobs_of_spaced : (j c : ℕ) → Spaced s (jobs_of j c)
  unfolding jobs_of
  jobs_of_spaced j zero = tt
  jobs_of_spaced j (suc c) = ((λ v m e. go v (jobs_of_in j c v m)), jobs_of_spaced j c)
    where
      go : (v : Work) → (k : ℕ) × (k < c) × (v ≡ new_work j (1 + k * (task_at s j).period)) → v.release + (task_at s j).period ≤ 1 + c * (task_at s j).period
      go v (k, lt, e) = omega (arith, ap (λ z. z.release) e, suc-mul k (task_at s j).period, mul-le-mul_right (task_at s j).period lt)

  pub due_spaced : (t n : ℕ) → Spaced s (due_below t n)
  unfolding due_below
  due_spaced t zero = tt
  due_spaced t (suc n) = spaced_append s (jobs_of n (how_many_due t n)) (due_below t n) (jobs_of_spaced n (how_many_due t n)) (due_spaced t n) (λ v w m k e. apart v w e (jobs_of_in n (how_many_due t n) w m) (due_in t n v k))
    where
      apart : (v w : Work) → v.task ≡ w.task → (k : ℕ) × (k < how_many_due t n) × (w ≡ new_work n (1 + k * (task_at s n).period)) → (j : ℕ) × (k : ℕ) × (j < n) × (k < how_many_due t j) × (v ≡ new_work j (1 + k * (task_at s j).period)) → ⊥
      apart v w e (k, lt, p) (j, l, below, many, q) = omega (arith, ap (λ z. z.task) p, ap (λ z. z.task) q)

  jobs_of_cost : (j c : ℕ) → left s 1 (jobs_of j c) ≡ c * (task_at s j).cost
  unfolding jobs_of total
  jobs_of_cost j zero = sym (zero-mul (task_at s j).cost)
  jobs_of_cost j (suc c) = omega (arith, jobs_of_cost j c, suc-mul c (task_at s j).cost, cond-true (leb 1 (1 + c * (task_at s j).period)) (task_at s j).cost 0 (le-leb 1 (1 + c * (task_at s j).period) (omega arith)))

  due_cost_below : (t n : ℕ) → left s 1 (due_below t n) ≡ sum_below n (λ j. how_many_due t j * (task_at s j).cost)
  unfolding due_below total sum_below
  due_cost_below t zero = refl
  due_cost_below t (suc n) = omega (arith, total_append (λ w. cond (leb 1 w.release) (task_at s w.task).cost 0) (jobs_of n (how_many_due t n)) (due_below t n), jobs_of_cost n (how_many_due t n), due_cost_below t n)

  pub due_cost : (t : ℕ) → left s 1 (due_jobs t) ≡ demand s t
  due_cost t = due_cost_below t (task_count s) ∙ sum_cong (task_count s) (λ j. how_many_due t j * (task_at s j).cost) (λ j. cond (leb (task_at s j).deadline t) ((1 + (t - (task_at s j).deadline) / (task_at s j).period) * (task_at s j).cost) 0) (λ j lt. go j (leb (task_at s j).deadline t))
    where
      go : (j : ℕ) (b : Bool) → cond b (1 + (t - (task_at s j).deadline) / (task_at s j).period) 0 * (task_at s j).cost ≡ cond b ((1 + (t - (task_at s j).deadline) / (task_at s j).period) * (task_at s j).cost) 0
      go j true = refl
      go j false = zero-mul (task_at s j).cost

  -- a job of the list: its task is one of the table, it is released from 1 on and due by t + 1
  pub record Due (t : ℕ) (w : Work) : Type 0 where
    pub known : w.task < task_count s
    pub from : 1 ≤ w.release
    pub due : w.release + (task_at s w.task).deadline ≤ suc t

  pub due_facts : Checked s → (t : ℕ) (w : Work) → In w (due_jobs t) → Due t w
  due_facts checked t w m = go (due_in t (task_count s) w m)
    where
      go : (j : ℕ) × (k : ℕ) × (j < task_count s) × (k < how_many_due t j) × (w ≡ new_work j (1 + k * (task_at s j).period)) → Due t w
      go (j, k, lt, many, e) = subst (λ z. Due t z) (sym e) (two (cases_Bool (leb (task_at s j).deadline t)))
        where
          two : (leb (task_at s j).deadline t ≡ true) ⊎ (leb (task_at s j).deadline t ≡ false) → Due t (new_work j (1 + k * (task_at s j).period))
          two (inr q) = absurd (omega (arith, cond-false (leb (task_at s j).deadline t) (1 + (t - (task_at s j).deadline) / (task_at s j).period) 0 q))
          two (inl q) =
              let few : k ≤ (t - (task_at s j).deadline) / (task_at s j).period = omega (arith, cond-true (leb (task_at s j).deadline t) (1 + (t - (task_at s j).deadline) / (task_at s j).period) 0 q) in
              record { known = lt; from = omega arith; due = omega (arith, leb-true (task_at s j).deadline t q, (le-div_iff_mul-le {k = (task_at s j).period} {x = k} {y = t - (task_at s j).deadline} (task_ranges s checked j lt).period_low).0 few) }
