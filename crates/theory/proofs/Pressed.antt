-- Where all that leads the job of i at lead + a has run its C: the ticks that jobs have run by time t are at least what the analysis asks for.
use Rattle.std.proofs.Common.{◌≡◌, ℕ, suc, ◌+◌, ◌-◌, ◌*◌, ◌/◌, ◌<◌, ◌≤◌, Bool, true, false, cond, not, ◌&&◌, eqb, ltb, ◌⊎◌, List, sym, refl, ap, ◌∙◌, subst, inl, inr, le_trans, le_of_eq, mul-le-mul_right, arith}
use Rattle.std.proofs.lemmas.Bool.{cases_eq, cases_Bool, cond-true, cond-false, eq-eqb, ne_eqb, eqb-true, and_parts, and_from, and_left, and_right, not_from_false, not_from_true, cases_order, le-ltb, both_ways}
use Rattle.table.specs.Rules.{TaskSet, Checked, task_at, task_count}
use Rattle.policy.specs.Order.{Order}
use Rattle.policy.specs.Laws.{Lawful}
use Rattle.theory.specs.Sums.{sum_below, count_below}
use Rattle.theory.specs.Lists.{In}
use Rattle.theory.specs.Machine.{Work}
use Rattle.theory.specs.Response.{jobs_ahead, work_ahead}
use Rattle.theory.specs.Course.{lead, blocker, course_blocking, releases_at}
use Rattle.theory.proofs.Sums.{sum_mono, sum_add, sum_single, sum_zero}
use Rattle.theory.proofs.Spread.{count_one}
use Rattle.theory.proofs.Orders.{leads, leads_own}
use Rattle.theory.proofs.Works.{total, total_mono, total_add, number, Apart}
use Rattle.theory.proofs.Keys.{one_job, by_task, scaled}
use Rattle.theory.proofs.Told.{once, told_once}
use Rattle.theory.proofs.ToldCounts.{told_ahead, told_earlier, told_here}
use Rattle.theory.proofs.Blockers.{the_blocker, blocker_never, lead_one, lead_some}

below : (b : Bool) (c : ℕ) → cond b c 0 ≤ c
below true c = omega arith
below false c = omega arith

-- the jobs after all releases up to and at t are those that the course tells
abbrev pub AsTold : TaskSet → Order → ℕ → ℕ → ℕ → List Work → Type 0
AsTold s o i a t jobs = (j : ℕ) → j < task_count s → (p : ℕ → Bool) → number (λ k r. eqb k j && p r) jobs ≡ count_below (suc t) (λ u. releases_at s o i a j u && p u)

module _ (s : TaskSet) (o : Order) (checked : Checked s) (law : Lawful s o) (i a : ℕ) (hi : i < task_count s)
    (t : ℕ) (jobs : List Work) (v : Work) (by : lead s o i a + a ≤ t) (known : (w : Work) → In w jobs → w.task < task_count s) (apart : Apart jobs) (as_told : AsTold s o i a t jobs)
    (here : In v jobs) (v_task : v.task ≡ i) (v_release : v.release ≡ lead s o i a + a)
    (led : (w : Work) → In w jobs → (w.task ≡ i → w.release ≡ lead s o i a + a → ⊥) → leads o i (lead s o i a + a) w.task w.release ≡ true → (task_at s w.task).cost ≤ w.ran)
    (past : (lead s o i a ≡ 0 → ⊥) → (w : Work) → In w jobs → w.task ≡ blocker s o i a → w.release ≡ 0 → (task_at s w.task).cost ≤ w.ran) where
  mine : ℕ → ℕ
  mine j = total (λ w. cond (eqb w.task j) w.ran 0) jobs

  -- the jobs of j that pass have all run c
  at_least : (j c : ℕ) (p : ℕ → Bool) → ((w : Work) → In w jobs → w.task ≡ j → p w.release ≡ true → c ≤ w.ran) → number (λ k r. eqb k j && p r) jobs * c ≤ mine j
  unfolding mine
  at_least j c p h = le_trans (le_of_eq (sym (scaled (λ k r. eqb k j && p r) c jobs))) (total_mono _ _ jobs (λ w m. each w m (cases_Bool (eqb w.task j)) (cases_Bool (p w.release))))
    where
      each : (w : Work) → In w jobs → (eqb w.task j ≡ true) ⊎ (eqb w.task j ≡ false) → (p w.release ≡ true) ⊎ (p w.release ≡ false) → cond (eqb w.task j && p w.release) c 0 ≤ cond (eqb w.task j) w.ran 0
      each w m (inl e) (inl f) = omega (arith, cond-true (eqb w.task j && p w.release) c 0 (and_from _ _ e f), cond-true (eqb w.task j) w.ran 0 e, h w m (eqb-true w.task j e) f)
      each w m (inl e) (inr f) = omega (arith, cond-false (eqb w.task j && p w.release) c 0 (and_right _ _ f))
      each w m (inr e) f = omega (arith, cond-false (eqb w.task j && p w.release) c 0 (and_left _ _ e))

  of_other : (j : ℕ) → j < task_count s → (j ≡ i → ⊥) → once s o i a j ≡ false → jobs_ahead s o i a j (suc (t - lead s o i a)) * (task_at s j).cost ≤ mine j
  of_other j hj ne often =
      let enough : jobs_ahead s o i a j (suc (t - lead s o i a)) ≤ number (λ k r. eqb k j && leads o i (lead s o i a + a) j r) jobs = rw (as_told j hj (λ r. leads o i (lead s o i a + a) j r)) (told_ahead s o checked law i a hi j t hj ne often (omega arith)) in
      le_trans (mul-le-mul_right (task_at s j).cost enough) (at_least j (task_at s j).cost (λ r. leads o i (lead s o i a + a) j r) each)
    where
      each : (w : Work) → In w jobs → w.task ≡ j → leads o i (lead s o i a + a) j w.release ≡ true → (task_at s j).cost ≤ w.ran
      each w m e f = subst (λ k. (task_at s k).cost ≤ w.ran) e (led w m (λ same _. ne (sym e ∙ same)) (subst (λ k. leads o i (lead s o i a + a) k w.release ≡ true) (sym e) f))

  of_own : a / (task_at s i).period * (task_at s i).cost + v.ran ≤ mine i
  unfolding mine
  of_own = omega (
    arith,
    mul-le-mul_right (task_at s i).cost earlier,
    mul-le-mul_right v.ran last,
    scaled (λ k r. eqb k i && ltb r (lead s o i a + a)) (task_at s i).cost jobs,
    scaled (λ k r. eqb k i && eqb r (lead s o i a + a)) v.ran jobs,
    total_add (λ w. cond (eqb w.task i && ltb w.release (lead s o i a + a)) (task_at s i).cost 0) (λ w. cond (eqb w.task i && eqb w.release (lead s o i a + a)) v.ran 0) jobs,
    both,
  )
    where
      earlier : a / (task_at s i).period ≤ number (λ k r. eqb k i && ltb r (lead s o i a + a)) jobs
      earlier = rw (as_told i hi (λ r. ltb r (lead s o i a + a))) (told_earlier s o checked law i a hi t by)

      last : 1 ≤ number (λ k r. eqb k i && eqb r (lead s o i a + a)) jobs
      last = rw (as_told i hi (λ r. eqb r (lead s o i a + a))) (told_here s o checked law i a hi t by)

      each : (w : Work) → In w jobs → (w.task ≡ i) ⊎ (w.task ≡ i → ⊥) → (w.release ≡ lead s o i a + a) ⊎ ((w.release < lead s o i a + a) ⊎ (lead s o i a + a < w.release))
          → cond (eqb w.task i && ltb w.release (lead s o i a + a)) (task_at s i).cost 0 + cond (eqb w.task i && eqb w.release (lead s o i a + a)) v.ran 0 ≤ cond (eqb w.task i) w.ran 0
      each w m (inr e) c = omega (arith, cond-false (eqb w.task i && ltb w.release (lead s o i a + a)) (task_at s i).cost 0 (and_left _ _ (ne_eqb w.task i e)), cond-false (eqb w.task i && eqb w.release (lead s o i a + a)) v.ran 0 (and_left _ _ (ne_eqb w.task i e)))
      each w m (inl e) (inl c) =
          let same : v ≡ w = one_job jobs apart v w here m (v_task ∙ sym e) (v_release ∙ sym c) in
          omega (arith, cond-false (eqb w.task i && ltb w.release (lead s o i a + a)) (task_at s i).cost 0 (and_right _ _ (le-ltb w.release (lead s o i a + a) (omega arith))), below (eqb w.task i && eqb w.release (lead s o i a + a)) v.ran, cond-true (eqb w.task i) w.ran 0 (eq-eqb w.task i e), ap (λ (z : Work). z.ran) same)
      each w m (inl e) (inr (inl c)) =
          let leads_it : leads o i (lead s o i a + a) w.task w.release ≡ true = subst (λ k. leads o i (lead s o i a + a) k w.release ≡ true) (sym e) (leads_own s o law i (lead s o i a + a) w.release hi (omega arith)) in
          let full : (task_at s i).cost ≤ w.ran = subst (λ k. (task_at s k).cost ≤ w.ran) e (led w m (λ _ f. omega arith) leads_it) in
          omega (arith, cond-false (eqb w.task i && eqb w.release (lead s o i a + a)) v.ran 0 (and_right _ _ (ne_eqb w.release (lead s o i a + a) (λ f. omega arith))), below (eqb w.task i && ltb w.release (lead s o i a + a)) (task_at s i).cost, cond-true (eqb w.task i) w.ran 0 (eq-eqb w.task i e))
      each w m (inl e) (inr (inr c)) = omega (arith, cond-false (eqb w.task i && ltb w.release (lead s o i a + a)) (task_at s i).cost 0 (and_right _ _ (le-ltb w.release (lead s o i a + a) (omega arith))), cond-false (eqb w.task i && eqb w.release (lead s o i a + a)) v.ran 0 (and_right _ _ (ne_eqb w.release (lead s o i a + a) (λ f. omega arith))))

      both : total (λ w. cond (eqb w.task i && ltb w.release (lead s o i a + a)) (task_at s i).cost 0 + cond (eqb w.task i && eqb w.release (lead s o i a + a)) v.ran 0) jobs ≤ total (λ w. cond (eqb w.task i) w.ran 0) jobs
      both = total_mono _ _ jobs (λ w m. each w m (cases_eq w.task i) (cases_order w.release (lead s o i a + a)))

  once_blocker : (lead s o i a ≡ 0 → ⊥) → once s o i a (blocker s o i a) ≡ true
  once_blocker h = and_from _ _ (not_from_false _ (ne_eqb (lead s o i a) 0 h)) (eq-eqb (blocker s o i a) (blocker s o i a) refl)

  of_blocker : (lead s o i a ≡ 0 → ⊥) → suc (course_blocking s o i a) ≤ mine (blocker s o i a)
  of_blocker h =
      let B = the_blocker s o i a h in
      let first : 1 ≤ number (λ k r. eqb k (blocker s o i a) && eqb r 0) jobs = rw (as_told (blocker s o i a) B.known (λ r. eqb r 0)) (count_one _ (suc t) 0 (omega arith) (and_from _ _ (told_once s o i a (blocker s o i a) 0 B.other (once_blocker h)) refl)) in
      omega (arith, mul-le-mul_right (suc (course_blocking s o i a)) first, at_least (blocker s o i a) (suc (course_blocking s o i a)) (λ r. eqb r 0) (λ w m e f. each w m e (eqb-true w.release 0 f) B.cost))
    where
      each : (w : Work) → In w jobs → w.task ≡ blocker s o i a → w.release ≡ 0 → (task_at s (blocker s o i a)).cost ≡ suc (course_blocking s o i a) → suc (course_blocking s o i a) ≤ w.ran
      each w m e f c = omega (arith, past h w m e f, ap (λ k. (task_at s k).cost) e)

  -- what each task has to have run
  share : ℕ → ℕ
  share j = (cond (eqb j i) 0 (jobs_ahead s o i a j (suc (t - lead s o i a)) * (task_at s j).cost) + cond (eqb j i) (a / (task_at s i).period * (task_at s i).cost + v.ran) 0) + cond (once s o i a j) (suc (course_blocking s o i a)) 0

  shared : (j : ℕ) → j < task_count s → share j ≤ mine j
  unfolding share
  shared j hj = go (cases_eq j i) (cases_Bool (once s o i a j)) (cases_eq (lead s o i a) 0)
    where
      go : (j ≡ i) ⊎ (j ≡ i → ⊥) → (once s o i a j ≡ true) ⊎ (once s o i a j ≡ false) → (lead s o i a ≡ 0) ⊎ (lead s o i a ≡ 0 → ⊥) → share j ≤ mine j
      go (inl e) (inl f) (inl z) = absurd (both_ways (once s o i a j) (and_left _ _ (not_from_true _ (eq-eqb (lead s o i a) 0 z))) f)
      go (inl e) (inl f) (inr h) = absurd ((the_blocker s o i a h).other (sym (eqb-true j (blocker s o i a) (and_parts (not (eqb (lead s o i a) 0)) (eqb j (blocker s o i a)) f).1) ∙ e))
      go (inl e) (inr f) z = omega (arith, cond-true {A = ℕ} (eqb j i) 0 (jobs_ahead s o i a j (suc (t - lead s o i a)) * (task_at s j).cost) (eq-eqb j i e), cond-true (eqb j i) (a / (task_at s i).period * (task_at s i).cost + v.ran) 0 (eq-eqb j i e), cond-false (once s o i a j) (suc (course_blocking s o i a)) 0 f, of_own, ap mine e)
      go (inr ne) (inl f) (inl z) = absurd (both_ways (once s o i a j) (and_left _ _ (not_from_true _ (eq-eqb (lead s o i a) 0 z))) f)
      go (inr ne) (inl f) (inr h) =
          let same : j ≡ blocker s o i a = eqb-true j (blocker s o i a) (and_parts (not (eqb (lead s o i a) 0)) (eqb j (blocker s o i a)) f).1 in
          let none : jobs_ahead s o i a j (suc (t - lead s o i a)) ≡ 0 = subst (λ k. jobs_ahead s o i a k (suc (t - lead s o i a)) ≡ 0) (sym same) (blocker_never s o i a law hi (blocker s o i a) (the_blocker s o i a h) (suc (t - lead s o i a))) in
          omega (arith, cond-false {A = ℕ} (eqb j i) 0 (jobs_ahead s o i a j (suc (t - lead s o i a)) * (task_at s j).cost) (ne_eqb j i ne), ap (λ (z : ℕ). z * (task_at s j).cost) none, cond-false (eqb j i) (a / (task_at s i).period * (task_at s i).cost + v.ran) 0 (ne_eqb j i ne), cond-true (once s o i a j) (suc (course_blocking s o i a)) 0 f, of_blocker h, ap mine same)
      go (inr ne) (inr f) z = omega (arith, cond-false {A = ℕ} (eqb j i) 0 (jobs_ahead s o i a j (suc (t - lead s o i a)) * (task_at s j).cost) (ne_eqb j i ne), cond-false (eqb j i) (a / (task_at s i).period * (task_at s i).cost + v.ran) 0 (ne_eqb j i ne), cond-false (once s o i a j) (suc (course_blocking s o i a)) 0 f, of_other j hj ne f)

  added : sum_below (task_count s) (λ j. cond (once s o i a j) (suc (course_blocking s o i a)) 0) ≡ lead s o i a + course_blocking s o i a
  added = go (cases_eq (lead s o i a) 0) (cases_eq (course_blocking s o i a) 0)
    where
      go : (lead s o i a ≡ 0) ⊎ (lead s o i a ≡ 0 → ⊥) → (course_blocking s o i a ≡ 0) ⊎ (course_blocking s o i a ≡ 0 → ⊥) → sum_below (task_count s) (λ j. cond (once s o i a j) (suc (course_blocking s o i a)) 0) ≡ lead s o i a + course_blocking s o i a
      go (inl z) (inl e) = omega (arith, sum_zero (task_count s) (λ j. cond (once s o i a j) (suc (course_blocking s o i a)) 0) (λ j lt. cond-false (once s o i a j) (suc (course_blocking s o i a)) 0 (and_left _ _ (not_from_true _ (eq-eqb (lead s o i a) 0 z)))))
      go (inl z) (inr ne) = absurd (omega (arith, lead_some s o i a ne))
      go (inr h) e = omega (
        arith,
        sum_single (task_count s) (blocker s o i a) (λ j. cond (once s o i a j) (suc (course_blocking s o i a)) 0) (the_blocker s o i a h).known (λ j lt ne. cond-false (once s o i a j) (suc (course_blocking s o i a)) 0 (and_right _ _ (ne_eqb j (blocker s o i a) ne))),
        cond-true (once s o i a (blocker s o i a)) (suc (course_blocking s o i a)) 0 (once_blocker h),
        lead_one s o i a h,
      )

  pub pressed : ((a / (task_at s i).period * (task_at s i).cost + v.ran) + work_ahead s o i a (suc (t - lead s o i a))) + (lead s o i a + course_blocking s o i a) ≤ total (λ w. w.ran) jobs
  unfolding share mine
  pressed = omega (
    arith,
    by_task (task_count s) (λ w. w.ran) jobs known,
    sum_mono (task_count s) share mine shared,
    added,
    sum_add (task_count s) (λ j. cond (eqb j i) 0 (jobs_ahead s o i a j (suc (t - lead s o i a)) * (task_at s j).cost) + cond (eqb j i) (a / (task_at s i).period * (task_at s i).cost + v.ran) 0) (λ j. cond (once s o i a j) (suc (course_blocking s o i a)) 0),
    sum_add (task_count s) (λ j. cond (eqb j i) 0 (jobs_ahead s o i a j (suc (t - lead s o i a)) * (task_at s j).cost)) (λ j. cond (eqb j i) (a / (task_at s i).period * (task_at s i).cost + v.ran) 0),
    sum_single (task_count s) i (λ j. cond (eqb j i) (a / (task_at s i).period * (task_at s i).cost + v.ran) 0) hi (λ j lt ne. cond-false (eqb j i) (a / (task_at s i).period * (task_at s i).cost + v.ran) 0 (ne_eqb j i ne)),
    cond-true (eqb i i) (a / (task_at s i).period * (task_at s i).cost + v.ran) 0 (eq-eqb i i refl),
  )
