-- The job that a tick runs: the one that leads all that wait, or without preemption the begun one.
use Rattle.std.proofs.Common.{◌≡◌, ℕ, ◌<◌, Bool, true, false, ◌⊎◌, List, [], ◌∷◌, Some, None, Option, sym, refl, subst, inl, inr, arith}
use Rattle.std.proofs.lemmas.Bool.{cases_Bool, both_ways}
use Rattle.table.specs.Rules.{TaskSet, task_count}
use Rattle.table.specs.declared.kinds.Mode.{Mode}
use Rattle.table.specs.declared.kinds.Mode.TheVariants.{NonPreemptive, Preemptive}
use Rattle.policy.specs.Order.{Order}
use Rattle.policy.specs.Laws.{Lawful}
use Rattle.theory.specs.Lists.{In, every, first_such}
use Rattle.theory.specs.Machine.{Work, first_in_line, job_to_run, begun, or_else}
use Rattle.theory.proofs.Search.{every_of, every_from, first_some, first_none}
use Rattle.theory.proofs.Orders.{leads, leads_self, leads_total, leads_trans}

-- v is w or ahead of it
abbrev pub front : Order → Work → Work → Bool
front o v w = leads o w.task w.release v.task v.release

abbrev pub AllKnown : TaskSet → List Work → Type 0
AllKnown s ws = (w : Work) → In w ws → w.task < task_count s

-- the choice of a tick among those that wait: none, the one that leads all where none is begun that may not be displaced, or the begun one
pub data Choice (m : Mode) (o : Order) (ws : List Work) : Option Work → Type 0 where
  nobody : ((w : Work) → In w ws → ⊥) → Choice m o ws None
  leader : (x : Work) → In x ws → ((w : Work) → In w ws → front o x w ≡ true) → (m ≡ NonPreemptive → (w : Work) → In w ws → begun w ≡ false) → Choice m o ws (Some x)
  kept : (x : Work) → In x ws → m ≡ NonPreemptive → begun x ≡ true → Choice m o ws (Some x)

module _ (s : TaskSet) (o : Order) (law : Lawful s o) where
  -- in a list that is not empty one job leads all
  pub leader_of : (y : Work) (ws : List Work) → AllKnown s (y ∷ ws) → (x : Work) × In x (y ∷ ws) × ((w : Work) → In w (y ∷ ws) → front o x w ≡ true)
  leader_of y [] known = (y, inl refl, λ w m. only w m)
    where
      only : (w : Work) → (w ≡ y) ⊎ ⊥ → front o y w ≡ true
      only w (inl e) = subst (λ z. front o y z ≡ true) (sym e) (leads_self s o law y.task y.release)
      only w (inr k) = absurd k
  leader_of y (z ∷ zs) known = go (leader_of y zs (λ w m. known w (skip w m)))
    where
      skip : (w : Work) → (w ≡ y) ⊎ In w zs → (w ≡ y) ⊎ ((w ≡ z) ⊎ In w zs)
      skip w (inl e) = inl e
      skip w (inr m) = inr (inr m)

      go : (x : Work) × In x (y ∷ zs) × ((w : Work) → In w (y ∷ zs) → front o x w ≡ true) → (x : Work) × In x (y ∷ (z ∷ zs)) × ((w : Work) → In w (y ∷ (z ∷ zs)) → front o x w ≡ true)
      go (x, m, all) = two (cases_Bool (front o x z))
        where
          two : (front o x z ≡ true) ⊎ (front o x z ≡ false) → (x : Work) × In x (y ∷ (z ∷ zs)) × ((w : Work) → In w (y ∷ (z ∷ zs)) → front o x w ≡ true)
          two (inl e) = (x, skip x m, λ w k. at w k)
            where
              at : (w : Work) → (w ≡ y) ⊎ ((w ≡ z) ⊎ In w zs) → front o x w ≡ true
              at w (inl q) = all w (inl q)
              at w (inr (inl q)) = subst (λ v. front o x v ≡ true) (sym q) e
              at w (inr (inr q)) = all w (inr q)
          two (inr e) = (z, inr (inl refl), λ w k. at w k)
            where
              first : front o z x ≡ true
              first = leads_total s o law z.task z.release x.task x.release (known z (inr (inl refl))) (known x (skip x m)) e

              over : (w : Work) → In w (y ∷ (z ∷ zs)) → front o x w ≡ true → front o z w ≡ true
              over w k h = leads_trans s o law w.task w.release x.task x.release z.task z.release (known w k) (known x (skip x m)) (known z (inr (inl refl))) h first

              at : (w : Work) → (w ≡ y) ⊎ ((w ≡ z) ⊎ In w zs) → front o z w ≡ true
              at w (inl q) = over w (inl q) (all w (inl q))
              at w (inr (inl q)) = subst (λ v. front o z v ≡ true) (sym q) (leads_self s o law z.task z.release)
              at w (inr (inr q)) = over w (inr (inr q)) (all w (inr q))

  line_none : (ws : List Work) → AllKnown s ws → first_in_line o ws ≡ None → (w : Work) → In w ws → ⊥
  line_none [] known h w m = m
  line_none (y ∷ ys) known h w m =
      let r = leader_of y ys known in
      both_ways (every (λ v. front o r.0 v) (y ∷ ys)) (first_none (λ v. every (λ u. front o v u) (y ∷ ys)) (y ∷ ys) h r.0 r.1) (every_from (λ v. front o r.0 v) (y ∷ ys) r.2)

  line_some : (ws : List Work) (x : Work) → first_in_line o ws ≡ Some x → In x ws × ((w : Work) → In w ws → front o x w ≡ true)
  line_some ws x h = let r = first_some (λ v. every (λ u. front o v u) ws) ws x h in (r.0, every_of (λ u. front o x u) ws r.1)

  -- what a tick chooses
  pub choice : (m : Mode) (ws : List Work) → AllKnown s ws → Choice m o ws (job_to_run m o ws)
  choice Preemptive ws known = go (first_in_line o ws) refl
    where
      no_mode : Preemptive ≡ NonPreemptive → ⊥
      no_mode e = let z : ◌≡◌ {A = ℕ} 0 1 = cc in omega arith

      go : (r : Option Work) → first_in_line o ws ≡ r → Choice Preemptive o ws r
      go None e = nobody (line_none ws known e)
      go (Some x) e = let r = line_some ws x e in leader x r.0 r.1 (λ q. absurd (no_mode q))
  choice NonPreemptive ws known = go (first_such begun ws) refl
    where
      line : ((w : Work) → In w ws → begun w ≡ false) → (r : Option Work) → first_in_line o ws ≡ r → Choice NonPreemptive o ws r
      line none None e = nobody (line_none ws known e)
      line none (Some x) e = let r = line_some ws x e in leader x r.0 r.1 (λ q. none)

      go : (r : Option Work) → first_such begun ws ≡ r → Choice NonPreemptive o ws (or_else r (first_in_line o ws))
      go None e = line (first_none begun ws e) (first_in_line o ws) refl
      go (Some x) e = let r = first_some begun ws x e in kept x r.0 refl r.1
