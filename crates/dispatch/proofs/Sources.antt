-- The waiting jobs of a summary and the jobs that they stand for.
use Rattle.std.proofs.Common.{◌≡◌, ℕ, ◌+◌, ◌≤◌, Bool, true, false, cond, not, ◌&&◌, ◌||◌, ltb, ◌⊎◌, List, [], ◌∷◌, ◌++◌, length, sym, refl, ap, ◌∙◌, subst, inl, inr, arith, length-append}
use Rattle.std.proofs.lemmas.Bool.Decides.{nat_tests}
use Rattle.std.proofs.lemmas.Bool.{cases_Bool, cond-true, cond-false, eqb-true, eq-eqb}
use Rattle.table.specs.Rules.{TaskSet, task_at}
use Rattle.theory.specs.Lists.{In, any, those, how_many}
use Rattle.theory.specs.Machine.{Work, of_task, waits}
use Rattle.theory.proofs.MachineFacts.{Spaced}
use Rattle.dispatch.specs.Summaries.{Summary, Pending, pending, newer, summed}

abbrev pub pending_of : Work → Pending
pending_of w = pending w.release w.ran

-- members of a list with one more at its end
pub in_front : {X : Type 0} (xs : List X) (y x : X) → In x xs → In x (xs ++ (y ∷ []))
in_front [] y x m = absurd m
in_front (z ∷ zs) y x (inl e) = inl e
in_front (z ∷ zs) y x (inr m) = inr (in_front zs y x m)

pub in_last : {X : Type 0} (xs : List X) (y : X) → In y (xs ++ (y ∷ []))
in_last [] y = inl refl
in_last (z ∷ zs) y = inr (in_last zs y)

pub from_snoc : {X : Type 0} (xs : List X) (y x : X) → In x (xs ++ (y ∷ [])) → In x xs ⊎ (x ≡ y)
from_snoc [] y x (inl e) = inr e
from_snoc [] y x (inr m) = absurd m
from_snoc (z ∷ zs) y x (inl e) = inl (inl e)
from_snoc (z ∷ zs) y x (inr m) = go (from_snoc zs y x m)
  where
    go : In x zs ⊎ (x ≡ y) → In x (z ∷ zs) ⊎ (x ≡ y)
    go (inl k) = inl (inr k)
    go (inr e) = inr e

module _ (s : TaskSet) (j : ℕ) where
  -- a summary with one newer job in front
  pub summed_mine : (w : Work) (ws : List Work) → w.task ≡ j → summed s j (w ∷ ws) ≡ newer (task_at s j) w.finished w.release w.ran w.response (summed s j ws)
  unfolding summed
  summed_mine w ws e = cond-true (of_task j w) (newer (task_at s j) w.finished w.release w.ran w.response (summed s j ws)) (summed s j ws) (eq-eqb w.task j e)

  pub summed_other : (w : Work) (ws : List Work) → of_task j w ≡ false → summed s j (w ∷ ws) ≡ summed s j ws
  unfolding summed
  summed_other w ws e = cond-false (of_task j w) (newer (task_at s j) w.finished w.release w.ran w.response (summed s j ws)) (summed s j ws) e

  pub waiting_open : (w : Work) (ws : List Work) → w.task ≡ j → w.finished ≡ false → (summed s j (w ∷ ws)).waiting ≡ (summed s j ws).waiting ++ (pending_of w ∷ [])
  waiting_open w ws e f = ap (λ (u : Summary). u.waiting) (summed_mine w ws e ∙ ap (λ b. newer (task_at s j) b w.release w.ran w.response (summed s j ws)) f)

  pub waiting_over : (w : Work) (ws : List Work) → w.task ≡ j → w.finished ≡ true → (summed s j (w ∷ ws)).waiting ≡ (summed s j ws).waiting
  waiting_over w ws e f = ap (λ (u : Summary). u.waiting) (summed_mine w ws e ∙ ap (λ b. newer (task_at s j) b w.release w.ran w.response (summed s j ws)) f)

  pub waiting_other : (w : Work) (ws : List Work) → of_task j w ≡ false → (summed s j (w ∷ ws)).waiting ≡ (summed s j ws).waiting
  waiting_other w ws e = ap (λ (u : Summary). u.waiting) (summed_other w ws e)

  -- the job that a waiting one stands for
  pub record Source (ws : List Work) (p : Pending) : Type 0 where
    pub work : Work
    pub inside : In work ws
    pub mine : work.task ≡ j
    pub unfinished : work.finished ≡ false
    pub is : pending_of work ≡ p

  deeper : (w : Work) (ws : List Work) (p : Pending) → Source ws p → Source (w ∷ ws) p
  deeper w ws p f = record { work = f.work; inside = inr f.inside; mine = f.mine; unfinished = f.unfinished; is = f.is }

  pub from_waiting : (ws : List Work) (p : Pending) → In p (summed s j ws).waiting → Source ws p
  unfolding summed
  from_waiting [] p m = absurd m
  from_waiting (w ∷ ws) p m = go (cases_Bool (of_task j w)) (cases_Bool w.finished) (from_waiting ws p)
    where
      go : (of_task j w ≡ true) ⊎ (of_task j w ≡ false) → (w.finished ≡ true) ⊎ (w.finished ≡ false) → (In p (summed s j ws).waiting → Source ws p) → Source (w ∷ ws) p
      go (inr a) b rest = deeper w ws p (rest (subst (In p) (waiting_other w ws a) m))
      go (inl a) (inl b) rest = deeper w ws p (rest (subst (In p) (waiting_over w ws (eqb-true w.task j a) b) m))
      go (inl a) (inr b) rest = two (from_snoc (summed s j ws).waiting (pending_of w) p (subst (In p) (waiting_open w ws (eqb-true w.task j a) b) m))
        where
          two : In p (summed s j ws).waiting ⊎ (p ≡ pending_of w) → Source (w ∷ ws) p
          two (inl k) = deeper w ws p (rest k)
          two (inr e) = record { work = w; inside = inl refl; mine = eqb-true w.task j a; unfinished = b; is = sym e }

  pub to_waiting : (ws : List Work) (x : Work) → In x ws → x.task ≡ j → x.finished ≡ false → In (pending_of x) (summed s j ws).waiting
  to_waiting [] x m t f = absurd m
  to_waiting (w ∷ ws) x (inl e) t f = subst (In (pending_of x)) (sym (waiting_open w ws (sym (ap (λ z. z.task) e) ∙ t) (sym (ap (λ z. z.finished) e) ∙ f))) (subst (λ z. In (pending_of z) ((summed s j ws).waiting ++ (pending_of w ∷ []))) (sym e) (in_last (summed s j ws).waiting (pending_of w)))
  to_waiting (w ∷ ws) x (inr m) t f = go (cases_Bool (of_task j w)) (cases_Bool w.finished) (to_waiting ws x m t f)
    where
      go : (of_task j w ≡ true) ⊎ (of_task j w ≡ false) → (w.finished ≡ true) ⊎ (w.finished ≡ false) → In (pending_of x) (summed s j ws).waiting → In (pending_of x) (summed s j (w ∷ ws)).waiting
      go (inr a) b k = subst (In (pending_of x)) (sym (waiting_other w ws a)) k
      go (inl a) (inl b) k = subst (In (pending_of x)) (sym (waiting_over w ws (eqb-true w.task j a) b)) k
      go (inl a) (inr b) k = subst (In (pending_of x)) (sym (waiting_open w ws (eqb-true w.task j a) b)) (in_front (summed s j ws).waiting (pending_of w) (pending_of x) k)

  -- of the waiting jobs the first is the oldest
  pub first_oldest : (ws : List Work) (p q : Pending) (ps : List Pending) → Spaced s ws → (summed s j ws).waiting ≡ p ∷ ps → In q (p ∷ ps) → p.release ≤ q.release
  unfolding summed
  first_oldest [] p q ps far e m = let z : ◌≡◌ {A = ℕ} 0 1 = cc in absurd (omega arith)
  first_oldest (w ∷ ws) p q ps far e m = go (cases_Bool (of_task j w)) (cases_Bool w.finished) (λ rs d k. first_oldest ws p q rs far.1 d k)
    where
      go : (of_task j w ≡ true) ⊎ (of_task j w ≡ false) → (w.finished ≡ true) ⊎ (w.finished ≡ false) → ((rs : List Pending) → (summed s j ws).waiting ≡ p ∷ rs → In q (p ∷ rs) → p.release ≤ q.release) → p.release ≤ q.release
      go (inr a) b rest = rest ps (sym (waiting_other w ws a) ∙ e) m
      go (inl a) (inl b) rest = rest ps (sym (waiting_over w ws (eqb-true w.task j a) b) ∙ e) m
      go (inl a) (inr b) rest = split (summed s j ws).waiting refl (sym (waiting_open w ws (eqb-true w.task j a) b) ∙ e)
        where
          split : (us : List Pending) → (summed s j ws).waiting ≡ us → us ++ (pending_of w ∷ []) ≡ p ∷ ps → p.release ≤ q.release
          split [] d f = only (subst (In q) (sym f) m)
            where
              only : (q ≡ pending_of w) ⊎ ⊥ → p.release ≤ q.release
              only (inl h) = let k : p ≡ pending_of w = cc in omega (arith, ap (λ (z : Pending). z.release) k, ap (λ (z : Pending). z.release) h)
              only (inr h) = absurd h
          split (u ∷ us) d f = two (from_snoc (u ∷ us) (pending_of w) q (subst (In q) (sym f) m))
            where
              first : u ≡ p
              first = cc

              source : Source ws u
              source = from_waiting ws u (subst (In u) (sym d) (inl refl))

              late : u.release ≤ w.release
              late = omega (arith, far.0 source.work source.inside (source.mine ∙ sym (eqb-true w.task j a)), ap (λ (z : Pending). z.release) source.is)

              two : In q (u ∷ us) ⊎ (q ≡ pending_of w) → p.release ≤ q.release
              two (inl k) = rest us (d ∙ ap (λ z. z ∷ us) first) (subst (λ z. In q (z ∷ us)) first k)
              two (inr k) = omega (arith, late, ap (λ (z : Pending). z.release) k, ap (λ (z : Pending). z.release) first)

  -- as many wait as the machine counts
  pub waiting_number : (ws : List Work) → how_many (of_task j) (those waits ws) ≡ length (summed s j ws).waiting
  unfolding summed how_many those
  waiting_number [] = refl
  waiting_number (w ∷ ws) = go (of_task j w) w.finished refl (waiting_number ws)
    where
      count : Bool → ℕ
      count a = cond a 1 0 + how_many (of_task j) (those waits ws)

      go : (a b : Bool) → of_task j w ≡ a → how_many (of_task j) (those waits ws) ≡ length (summed s j ws).waiting → how_many (of_task j) (cond (not b) (w ∷ those waits ws) (those waits ws)) ≡ length (cond a (newer (task_at s j) b w.release w.ran w.response (summed s j ws)) (summed s j ws)).waiting
      go true true e rest = rest
      go false true e rest = rest
      go true false e rest = omega (arith, ap count e, length-append (summed s j ws).waiting (pending_of w ∷ []))
      go false false e rest = omega (arith, ap count e)

  -- no release is free before the newest one's distance
  free_below : (ws : List Work) (bound : ℕ) → ((v : Work) → In v ws → v.task ≡ j → v.release + (task_at s j).period ≤ bound) → (summed s j ws).free ≤ bound
  unfolding summed
  free_below [] bound h = omega arith
  free_below (w ∷ ws) bound h = go (of_task j w) w.finished (λ e. h w (inl refl) (eqb-true w.task j e)) (free_below ws bound (λ v m. h v (inr m)))
    where
      go : (a b : Bool) → (a ≡ true → w.release + (task_at s j).period ≤ bound) → (summed s j ws).free ≤ bound → (cond a (newer (task_at s j) b w.release w.ran w.response (summed s j ws)) (summed s j ws)).free ≤ bound
      go true true here rest = here refl
      go true false here rest = here refl
      go false b here rest = rest

  pub too_soon : (time : ℕ) (ws : List Work) → Spaced s ws → any (λ w. of_task j w && ltb time (w.release + (task_at s j).period)) ws ≡ ltb time (summed s j ws).free
  unfolding summed any
  too_soon time [] far = sym (lt_none time)
    where
      lt_none : (n : ℕ) → ltb n 0 ≡ false
      lt_none n = grind (arith, nat_tests)
  too_soon time (w ∷ ws) far = go (of_task j w) w.finished (λ e. free_below ws w.release (λ v m t. subst (λ i. v.release + (task_at s i).period ≤ w.release) (eqb-true w.task j e) (far.0 v m (t ∙ sym (eqb-true w.task j e))))) (too_soon time ws far.1)
    where
      later : (n a f : ℕ) → f ≤ a → (ltb n a || ltb n f) ≡ ltb n a
      later n a f h = grind (arith, nat_tests)

      go : (a b : Bool) → (a ≡ true → (summed s j ws).free ≤ w.release) → any (λ w. of_task j w && ltb time (w.release + (task_at s j).period)) ws ≡ ltb time (summed s j ws).free → ((a && ltb time (w.release + (task_at s j).period)) || any (λ w. of_task j w && ltb time (w.release + (task_at s j).period)) ws) ≡ ltb time (cond a (newer (task_at s j) b w.release w.ran w.response (summed s j ws)) (summed s j ws)).free
      go true true below rest = ap (λ b. ltb time (w.release + (task_at s j).period) || b) rest ∙ later time (w.release + (task_at s j).period) (summed s j ws).free (omega (arith, below refl))
      go true false below rest = ap (λ b. ltb time (w.release + (task_at s j).period) || b) rest ∙ later time (w.release + (task_at s j).period) (summed s j ws).free (omega (arith, below refl))
      go false b below rest = rest
