-- What every release and every tick of a worst course keeps holds along it, while nothing is refused.
use Rattle.std.proofs.Common.{◌≡◌, ℕ, zero, suc, ◌<◌, ◌≤◌, true, false, cond, ◌⊎◌, [], ◌∷◌, ◌++◌, None, sym, ◌∙◌, subst, inl, inr, le_refl, arith}
use Rattle.std.proofs.lemmas.Bool.{cases_Bool, cond-true, cond-false}
use Rattle.table.specs.Rules.{TaskSet, task_count}
use Rattle.policy.specs.Order.{Order}
use Rattle.theory.specs.Machine.{State, release, tick, refusal, accept, play, start}
use Rattle.theory.specs.Course.{releases_at, releases_below, course_until}
use Rattle.theory.proofs.Courses.{play_append}
use Rattle.theory.proofs.Accepted.{Accepted, step_accept, accepted_front, accepted_back}

module _ (s : TaskSet) (o : Order) (i a : ℕ) (Inv : ℕ → ℕ → State → Type 0)
    (first : Inv 0 0 start)
    (released : (t m : ℕ) (st : State) → m < task_count s → Inv t m st → releases_at s o i a m t ≡ true → refusal s st (release m) ≡ None → Inv t (suc m) (accept s o st (release m)))
    (passed : (t m : ℕ) (st : State) → m < task_count s → Inv t m st → releases_at s o i a m t ≡ false → Inv t (suc m) st)
    (ticked : (t : ℕ) (st : State) → Inv t (task_count s) st → Inv (suc t) 0 (accept s o st (tick false))) where
  pub along_releases : (t m : ℕ) (st : State) → m ≤ task_count s → Inv t 0 st → Accepted s o st (releases_below s o i a t m) → Inv t m (play s o st (releases_below s o i a t m))
  unfolding releases_below play
  along_releases t zero st le inv acc = inv
  along_releases t (suc m) st le inv acc = subst (λ z. Inv t (suc m) z) (sym (play_append s o st (releases_below s o i a t m) (cond (releases_at s o i a m t) (release m ∷ []) [])))
      (go (cases_Bool (releases_at s o i a m t)) (along_releases t m st (omega arith) inv (accepted_front s o st (releases_below s o i a t m) _ acc)) (accepted_back s o st (releases_below s o i a t m) _ acc))
    where
      go : (releases_at s o i a m t ≡ true) ⊎ (releases_at s o i a m t ≡ false) → Inv t m (play s o st (releases_below s o i a t m)) → Accepted s o (play s o st (releases_below s o i a t m)) (cond (releases_at s o i a m t) (release m ∷ []) [])
          → Inv t (suc m) (play s o (play s o st (releases_below s o i a t m)) (cond (releases_at s o i a m t) (release m ∷ []) []))
      go (inl e) ih here =
          let c = cond-true (releases_at s o i a m t) (release m ∷ []) [] e in
          let free = subst (λ cs. Accepted s o (play s o st (releases_below s o i a t m)) cs) c here in
          subst (λ cs. Inv t (suc m) (play s o (play s o st (releases_below s o i a t m)) cs)) (sym c)
          (subst (λ z. Inv t (suc m) z) (sym (step_accept s o (play s o st (releases_below s o i a t m)) (release m) free.0)) (released t m (play s o st (releases_below s o i a t m)) (omega arith) ih e free.0))
      go (inr e) ih here =
          subst (λ cs. Inv t (suc m) (play s o (play s o st (releases_below s o i a t m)) cs)) (sym (cond-false (releases_at s o i a m t) (release m ∷ []) [] e)) (passed t m (play s o st (releases_below s o i a t m)) (omega arith) ih e)

  pub along : (t : ℕ) → Accepted s o start (course_until s o i a t) → Inv t 0 (play s o start (course_until s o i a t))
  unfolding course_until play
  along zero acc = first
  along (suc t) acc = go (play s o start (course_until s o i a t)) (along t (accepted_front s o start (course_until s o i a t) _ acc)) (accepted_back s o start (course_until s o i a t) _ acc) (play_append s o start (course_until s o i a t) (releases_below s o i a t (task_count s) ++ (tick false ∷ [])))
    where
      go : (st : State) → Inv t 0 st → Accepted s o st (releases_below s o i a t (task_count s) ++ (tick false ∷ [])) → play s o start (course_until s o i a (suc t)) ≡ play s o st (releases_below s o i a t (task_count s) ++ (tick false ∷ [])) → Inv (suc t) 0 (play s o start (course_until s o i a (suc t)))
      go st ih rest e =
          let all = along_releases t (task_count s) st (le_refl _) ih (accepted_front s o st (releases_below s o i a t (task_count s)) _ rest) in
          let free = accepted_back s o st (releases_below s o i a t (task_count s)) _ rest in
          subst (λ z. Inv (suc t) 0 z) (sym (e ∙ play_append s o st (releases_below s o i a t (task_count s)) (tick false ∷ []) ∙ step_accept s o (play s o st (releases_below s o i a t (task_count s))) (tick false) free.0)) (ticked t (play s o st (releases_below s o i a t (task_count s))) all)
