-- A told release is accepted, or finds a job of its task that was released 8 periods ago and still waits.
use Rattle.std.proofs.Common.{◌≡◌, ℕ, suc, ◌+◌, ◌-◌, ◌*◌, ◌<◌, ◌≤◌, Bool, true, false, cond, ◌&&◌, eqb, ltb, leb, ◌⊎◌, List, [], ◌∷◌, Some, None, Option, refl, ap, ◌∙◌, inl, inr, mul-le-mul_right, arith}
use Rattle.std.proofs.lemmas.Bool.{cases_Bool, cases_lt, both_ways, cond-true, cond-false, and_parts, and_from, and_left, and_right, eqb-true, ltb-true, lt-ltb, le-ltb, lt-leb, le-leb, leb-true, not-true, or_from}
use Rattle.table.specs.Rules.{TaskSet, task_at, task_count}
use Rattle.table.specs.declared.refusal.Refusal.{Refusal}
use Rattle.table.specs.declared.refusal.Refusal.TheVariants.{NoTaskToRun, TooSoon, QueueFull}
use Rattle.policy.specs.Order.{Order}
use Rattle.theory.specs.Sums.{count_below}
use Rattle.theory.specs.Lists.{In, any, those, how_many, first_such}
use Rattle.theory.specs.Machine.{Work, State, release, refusal, of_task, waits, waiting, longest_line}
use Rattle.theory.specs.Course.{releases_at}
use Rattle.theory.proofs.Search.{first_some, first_none}
use Rattle.theory.proofs.Works.{total, number, Test, tests}
use Rattle.theory.proofs.Keys.{in_number}
use Rattle.theory.proofs.Spread.{count_none, count_spaced}
use Rattle.theory.proofs.Told.{told_apart}
use Rattle.theory.proofs.Stage.{Stage}

any_from : {X : Type 0} (p : X → Bool) (xs : List X) → ((x : X) → In x xs → p x ≡ false) → any p xs ≡ false
unfolding any
any_from p [] h = refl
any_from p (x ∷ xs) h = or_from (p x) (any p xs) (h x (inl refl)) (any_from p xs (λ y m. h y (inr m)))

-- those that wait and pass p are counted by q
waiting_number : (p : Work → Bool) (q : Test) (ws : List Work) → ((w : Work) → In w ws → waits w ≡ true → p w ≡ true → tests q w ≡ true) → how_many p (those waits ws) ≤ number q ws
unfolding how_many those total
waiting_number p q [] h = omega arith
waiting_number p q (w ∷ ws) h = go (cases_Bool (waits w)) (cases_Bool (p w)) (waiting_number p q ws (λ v m. h v (inr m)))
  where
    go : (waits w ≡ true) ⊎ (waits w ≡ false) → (p w ≡ true) ⊎ (p w ≡ false) → how_many p (those waits ws) ≤ number q ws → how_many p (cond (waits w) (w ∷ those waits ws) (those waits ws)) ≤ cond (tests q w) 1 0 + number q ws
    go (inl e) (inl f) ih = omega (arith, ap (λ zs. how_many p zs) (cond-true (waits w) (w ∷ those waits ws) (those waits ws) e), cond-true {A = ℕ} (p w) 1 0 f, cond-true {A = ℕ} (tests q w) 1 0 (h w (inl refl) e f))
    go (inl e) (inr f) ih = omega (arith, ap (λ zs. how_many p zs) (cond-true (waits w) (w ∷ those waits ws) (those waits ws) e), cond-false {A = ℕ} (p w) 1 0 f)
    go (inr e) f ih = omega (arith, ap (λ zs. how_many p zs) (cond-false (waits w) (w ∷ those waits ws) (those waits ws) e))

module _ (s : TaskSet) (o : Order) (i a t j : ℕ) (hj : j < task_count s) (st : State) (g : Stage s o i a t j st) (now_told : releases_at s o i a j t ≡ true) where
  -- the jobs of j that pass are counted by the told ticks before t
  told_number : (p : ℕ → Bool) → number (λ k r. eqb k j && p r) st.jobs ≡ count_below t (λ u. releases_at s o i a j u && p u)
  told_number p = omega (arith, g.counted j hj p, cond-false {A = ℕ} (ltb j j && (releases_at s o i a j t && p t)) 1 0 (and_left _ _ (le-ltb j j (omega arith))))

  rested : any (λ w. of_task j w && ltb st.time (w.release + (task_at s j).period)) st.jobs ≡ false
  rested = any_from _ st.jobs (λ w m. go w m (cases_Bool (of_task j w && ltb st.time (w.release + (task_at s j).period))))
    where
      none : number (λ k r. eqb k j && ltb st.time (r + (task_at s j).period)) st.jobs ≡ 0
      none = told_number (λ r. ltb st.time (r + (task_at s j).period)) ∙ count_none _ t (λ u lt. far u lt (cases_Bool (releases_at s o i a j u)))
        where
          far : (u : ℕ) → u < t → (releases_at s o i a j u ≡ true) ⊎ (releases_at s o i a j u ≡ false) → (releases_at s o i a j u && ltb st.time (u + (task_at s j).period)) ≡ false
          far u lt (inl e) = and_right _ _ (le-ltb st.time (u + (task_at s j).period) (omega (arith, g.now, told_apart s o i a j u t e now_told lt)))
          far u lt (inr e) = and_left _ _ e

      go : (w : Work) → In w st.jobs → ((of_task j w && ltb st.time (w.release + (task_at s j).period)) ≡ true) ⊎ ((of_task j w && ltb st.time (w.release + (task_at s j).period)) ≡ false) → (of_task j w && ltb st.time (w.release + (task_at s j).period)) ≡ false
      go w m (inl e) = absurd (omega (arith, none, in_number (λ k r. eqb k j && ltb st.time (r + (task_at s j).period)) st.jobs w m e))
      go w m (inr e) = e

  -- a job of j that has waited for 8 periods
  abbrev pub Overdue : Type 0
  Overdue = (w : Work) × In w st.jobs × (w.finished ≡ false) × (w.task ≡ j) × (w.release + 8 * (task_at s j).period ≤ t)

  old : Work → Bool
  old w = waits w && (of_task j w && leb (w.release + 8 * (task_at s j).period) t)

  full : longest_line ≤ how_many (of_task j) (waiting st) → Overdue
  unfolding old
  full long = go (first_such old st.jobs) refl
    where
      recent : ℕ → Bool
      recent r = ltb t (r + 8 * (task_at s j).period)

      few : count_below t (λ u. releases_at s o i a j u && recent u) < 8
      few = go (cases_lt (count_below t (λ u. releases_at s o i a j u && recent u)) 8)
          (count_spaced (λ u. releases_at s o i a j u && recent u) (task_at s j).period (suc t - 8 * (task_at s j).period) t
          (λ u e. omega (arith, ltb-true t (u + 8 * (task_at s j).period) (and_parts (releases_at s o i a j u) (recent u) e).1))
          (λ u v e f lt. told_apart s o i a j u v (and_parts (releases_at s o i a j u) (recent u) e).0 (and_parts (releases_at s o i a j v) (recent v) f).0 lt))
        where
          go : (count_below t (λ u. releases_at s o i a j u && recent u) < 8) ⊎ (8 ≤ count_below t (λ u. releases_at s o i a j u && recent u))
              → (count_below t (λ u. releases_at s o i a j u && recent u) ≡ 0) ⊎ ((u : ℕ) × (u < t) × ((releases_at s o i a j u && recent u) ≡ true) × ((suc t - 8 * (task_at s j).period) + count_below t (λ u. releases_at s o i a j u && recent u) * (task_at s j).period ≤ u + (task_at s j).period))
              → count_below t (λ u. releases_at s o i a j u && recent u) < 8
          go (inl lt) c = lt
          go (inr ge) (inl z) = absurd (omega arith)
          go (inr ge) (inr (u, lt, e, far)) = absurd (omega (arith, told_apart s o i a j u t (and_parts (releases_at s o i a j u) (recent u) e).0 now_told lt, mul-le-mul_right (task_at s j).period ge))

      go : (r : Option Work) → first_such old st.jobs ≡ r → Overdue
      go (Some w) e =
          let f = first_some old st.jobs w e in
          let p = and_parts (waits w) (of_task j w && leb (w.release + 8 * (task_at s j).period) t) f.1 in
          let q = and_parts (of_task j w) (leb (w.release + 8 * (task_at s j).period) t) p.1 in
          (w, f.0, not-true w.finished p.0, eqb-true w.task j q.0, leb-true (w.release + 8 * (task_at s j).period) t q.1)
      go None e = absurd (omega (arith, few, told_number recent, waiting_number (of_task j) (λ k r. eqb k j && recent r) st.jobs (λ w m x y. and_from (eqb w.task j) (recent w.release) y (new w m x y (cases_lt t (w.release + 8 * (task_at s j).period))))))
        where
          new : (w : Work) → In w st.jobs → waits w ≡ true → of_task j w ≡ true → (t < w.release + 8 * (task_at s j).period) ⊎ (w.release + 8 * (task_at s j).period ≤ t) → recent w.release ≡ true
          new w m x y (inl lt) = lt-ltb t (w.release + 8 * (task_at s j).period) lt
          new w m x y (inr le) = absurd (both_ways (old w) (first_none old st.jobs e w m) (and_from _ _ x (and_from _ _ y (le-leb (w.release + 8 * (task_at s j).period) t le))))

  pub taken : (refusal s st (release j) ≡ None) ⊎ Overdue
  taken = go (cases_Bool (leb longest_line (how_many (of_task j) (waiting st))))
    where
      line : Option Refusal
      line = cond (leb longest_line (how_many (of_task j) (waiting st))) (Some (QueueFull j)) None

      soon : Option Refusal
      soon = cond (any (λ w. of_task j w && ltb st.time (w.release + (task_at s j).period)) st.jobs) (Some (TooSoon j)) line

      go : (leb longest_line (how_many (of_task j) (waiting st)) ≡ true) ⊎ (leb longest_line (how_many (of_task j) (waiting st)) ≡ false) → (refusal s st (release j) ≡ None) ⊎ Overdue
      go (inl e) = inr (full (leb-true longest_line (how_many (of_task j) (waiting st)) e))
      go (inr e) = inl (cond-false (leb (task_count s) j) (Some (NoTaskToRun j)) soon (lt-leb (task_count s) j hj) ∙ cond-false (any (λ w. of_task j w && ltb st.time (w.release + (task_at s j).period)) st.jobs) (Some (TooSoon j)) line rested ∙ cond-false (leb longest_line (how_many (of_task j) (waiting st))) (Some (QueueFull j)) None e)
