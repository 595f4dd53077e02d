-- Among the jobs of a list released from x on, the one that all the others lead.
use Rattle.std.proofs.Common.{◌≡◌, ℕ, ◌<◌, ◌≤◌, true, false, ◌⊎◌, List, [], ◌∷◌, sym, refl, ap, subst, inl, inr, arith}
use Rattle.std.proofs.lemmas.Bool.{cases_Bool, cases_lt}
use Rattle.table.specs.Rules.{TaskSet, task_count}
use Rattle.policy.specs.Order.{Order}
use Rattle.policy.specs.Laws.{Lawful}
use Rattle.theory.specs.Lists.{In}
use Rattle.theory.specs.Machine.{Work}
use Rattle.theory.proofs.Orders.{leads, leads_self, leads_total, leads_trans}
use Rattle.theory.proofs.Choice.{front}
use Rattle.theory.proofs.Floor.{leads_both}

-- all jobs of the list from x on lead K
abbrev pub LastFrom : Order → ℕ → List Work → Work → Type 0
LastFrom o x ws K = (v : Work) → In v ws → x ≤ v.release → front o v K ≡ true

module _ (s : TaskSet) (o : Order) (law : Lawful s o) where
  -- a job that leads K and is another one is not led by K
  pub not_led : (i a j r : ℕ) → i < task_count s → j < task_count s → (j ≡ i → r ≡ a → ⊥) → leads o i a j r ≡ true → leads o j r i a ≡ false
  not_led i a j r hi hj ne h = go (cases_Bool (leads o j r i a))
    where
      go : (leads o j r i a ≡ true) ⊎ (leads o j r i a ≡ false) → leads o j r i a ≡ false
      go (inl e) = absurd (leads_both s o law i a j r hi hj ne h e)
      go (inr e) = e

  pub last_from : (x : ℕ) (ws : List Work) → ((w : Work) → In w ws → w.task < task_count s) → ((w : Work) → In w ws → w.release < x) ⊎ ((K : Work) × In K ws × (x ≤ K.release) × LastFrom o x ws K)
  last_from x [] known = inl (λ w m. absurd m)
  last_from x (y ∷ ys) known = go (cases_lt y.release x) (last_from x ys (λ w m. known w (inr m)))
    where
      go : (y.release < x) ⊎ (x ≤ y.release) → ((w : Work) → In w ys → w.release < x) ⊎ ((K : Work) × In K ys × (x ≤ K.release) × LastFrom o x ys K) → ((w : Work) → In w (y ∷ ys) → w.release < x) ⊎ ((K : Work) × In K (y ∷ ys) × (x ≤ K.release) × LastFrom o x (y ∷ ys) K)
      go (inl lt) (inl none) = inl (λ w m. both w m)
        where
          both : (w : Work) → (w ≡ y) ⊎ In w ys → w.release < x
          both w (inl e) = subst (λ z. z.release < x) (sym e) lt
          both w (inr m) = none w m
      go (inl lt) (inr (K, m, le, all)) = inr (K, inr m, le, λ v k low. both v k low)
        where
          both : (v : Work) → (v ≡ y) ⊎ In v ys → x ≤ v.release → front o v K ≡ true
          both v (inl e) low = absurd (omega (arith, ap (λ z. z.release) e))
          both v (inr k) low = all v k low
      go (inr here) (inl none) = inr (y, inl refl, here, λ v k low. both v k low)
        where
          both : (v : Work) → (v ≡ y) ⊎ In v ys → x ≤ v.release → front o v y ≡ true
          both v (inl e) low = subst (λ z. front o z y ≡ true) (sym e) (leads_self s o law y.task y.release)
          both v (inr k) low = absurd (omega (arith, none v k))
      go (inr here) (inr (K, m, le, all)) = two (cases_Bool (front o y K))
        where
          two : (front o y K ≡ true) ⊎ (front o y K ≡ false) → ((w : Work) → In w (y ∷ ys) → w.release < x) ⊎ ((K : Work) × In K (y ∷ ys) × (x ≤ K.release) × LastFrom o x (y ∷ ys) K)
          two (inl e) = inr (K, inr m, le, λ v k low. both v k low)
            where
              both : (v : Work) → (v ≡ y) ⊎ In v ys → x ≤ v.release → front o v K ≡ true
              both v (inl q) low = subst (λ z. front o z K ≡ true) (sym q) e
              both v (inr k) low = all v k low
          two (inr e) = inr (y, inl refl, here, λ v k low. both v k low)
            where
              led : front o K y ≡ true
              led = leads_total s o law K.task K.release y.task y.release (known K (inr m)) (known y (inl refl)) e

              both : (v : Work) → (v ≡ y) ⊎ In v ys → x ≤ v.release → front o v y ≡ true
              both v (inl q) low = subst (λ z. front o z y ≡ true) (sym q) (leads_self s o law y.task y.release)
              both v (inr k) low = leads_trans s o law y.task y.release K.task K.release v.task v.release (known y (inl refl)) (known K (inr m)) (known v (inr k)) led (all v k low)
