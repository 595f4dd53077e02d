-- The oldest waiting job of a task waits, and none of the task's waiting jobs was released before it.
use Rattle.std.proofs.Common.{◌≡◌, ℕ, ◌≤◌, Bool, true, false, cond, ◌⊎◌, List, [], ◌∷◌, Some, None, Option, sym, refl, ap, ◌∙◌, inl, inr, arith}
use Rattle.std.proofs.lemmas.Bool.{eqb-true, eq-eqb}
use Rattle.table.specs.Rules.{TaskSet}
use Rattle.theory.specs.Lists.{In, those}
use Rattle.theory.specs.Machine.{Work, State, of_task, waits, waiting, or_else}
use Rattle.theory.proofs.MachineFacts.{Spaced, waits_of, waits_in}
use Rattle.theory.proofs.Search.{those_of, in_those, none_some, some_same}
use Rattle.dispatch.specs.Oldest.{last_release, oldest_waiting}

-- what is left of a spaced list is spaced
spaced_those : (s : TaskSet) (p : Work → Bool) (ws : List Work) → Spaced s ws → Spaced s (those p ws)
unfolding those
spaced_those s p [] far = tt
spaced_those s p (w ∷ ws) far = go (p w) (spaced_those s p ws far.1)
  where
    go : (b : Bool) → Spaced s (those p ws) → Spaced s (cond b (w ∷ those p ws) (those p ws))
    go true rest = (λ v m e. far.0 v (those_of p ws v m).0 e, rest)
    go false rest = rest

last_in : (ws : List Work) (q : ℕ) → last_release ws ≡ Some q → (w : Work) × In w ws × (w.release ≡ q)
unfolding last_release
last_in [] q e = absurd (none_some e)
last_in (w ∷ ws) q e = go (last_release ws) refl (last_in ws)
  where
    go : (r : Option ℕ) → last_release ws ≡ r → ((p : ℕ) → last_release ws ≡ Some p → (v : Work) × In v ws × (v.release ≡ p)) → (v : Work) × In v (w ∷ ws) × (v.release ≡ q)
    go None is rest = (w, inl refl, some_same (ap (λ r. or_else r (Some w.release)) (sym is) ∙ e))
    go (Some p) is rest =
        let found = rest p is in
        let same : p ≡ q = some_same (ap (λ r. or_else r (Some w.release)) (sym is) ∙ e) in
        (found.0, inr found.1, found.2 ∙ same)

-- of spaced jobs of one task
last_least : (s : TaskSet) (j : ℕ) (ws : List Work) → Spaced s ws → ((w : Work) → In w ws → w.task ≡ j) → (w : Work) → In w ws → (q : ℕ) × (last_release ws ≡ Some q) × (q ≤ w.release)
unfolding last_release
last_least s j [] far mine w m = absurd m
last_least s j (x ∷ xs) far mine w m = go (last_release xs) refl m (last_least s j xs far.1 (λ v k. mine v (inr k)))
  where
    go : (r : Option ℕ) → last_release xs ≡ r → (w ≡ x) ⊎ In w xs → ((v : Work) → In v xs → (q : ℕ) × (last_release xs ≡ Some q) × (q ≤ v.release)) → (q : ℕ) × (or_else (last_release xs) (Some x.release) ≡ Some q) × (q ≤ w.release)
    go None is (inl e) rest = (x.release, ap (λ r. or_else r (Some x.release)) is, omega (arith, ap (λ (v : Work). v.release) e))
    go None is (inr k) rest = absurd (none_some (sym is ∙ (rest w k).1))
    go (Some q) is (inl e) rest =
        let found = last_in xs q is in
        (q, ap (λ r. or_else r (Some x.release)) is, omega (arith, found.2, far.0 found.0 found.1 (mine found.0 (inr found.1) ∙ sym (mine x (inl refl))), ap (λ (v : Work). v.release) e))
    go (Some q) is (inr k) rest =
        let below = rest w k in
        (q, ap (λ r. or_else r (Some x.release)) is, omega (arith, some_same (sym is ∙ below.1), below.2))

pub oldest_in : (st : State) (j q : ℕ) → oldest_waiting st j ≡ Some q → (w : Work) × In w st.jobs × (w.finished ≡ false) × (w.task ≡ j) × (w.release ≡ q)
oldest_in st j q e =
    let found = last_in (those (of_task j) (waiting st)) q e in
    let w = found.0 in
    let mine = those_of (of_task j) (waiting st) w found.1 in
    let open_job = waits_of st w mine.0 in
    (w, open_job.0, open_job.1, eqb-true w.task j mine.1, found.2)

pub oldest_least : (s : TaskSet) (st : State) → Spaced s st.jobs → (w : Work) → In w st.jobs → w.finished ≡ false → (q : ℕ) × (oldest_waiting st w.task ≡ Some q) × (q ≤ w.release)
oldest_least s st far w m open_job =
    last_least s w.task (those (of_task w.task) (waiting st)) (spaced_those s (of_task w.task) (waiting st) (spaced_those s waits st.jobs far))
    (λ v k. eqb-true v.task w.task (those_of (of_task w.task) (waiting st) v k).1)
    w (in_those (of_task w.task) (waiting st) w (waits_in st w m open_job) (eq-eqb w.task w.task refl))
