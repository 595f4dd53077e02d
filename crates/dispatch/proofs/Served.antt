-- A tick of the first waiting job of a task, in the machine's list and in the summary.
use Rattle.std.proofs.Common.{◌≡◌, ℕ, ◌+◌, ◌-◌, max, Bool, true, false, cond, ◌&&◌, ◌||◌, eqb, ltb, leb, ◌⊎◌, List, [], ◌∷◌, ◌++◌, map, sym, refl, ap, ◌∙◌, subst, inl, inr, arith}
use Rattle.std.proofs.lemmas.Bool.{cases_Bool, both_ways, eqb-true}
use Rattle.table.specs.Rules.{TaskSet, task_at}
use Rattle.table.specs.Sporadic.{Sporadic}
use Rattle.theory.specs.Lists.{In}
use Rattle.theory.specs.Machine.{Work, of_task, same_work, run_one, ends}
use Rattle.theory.proofs.Works.{Apart, given, given_same, given_other, given_task, same_facts, same_from}
use Rattle.dispatch.specs.Summaries.{Summary, Pending, pending, newer, summed, moved, ends_now}
use Rattle.dispatch.proofs.Sources.{pending_of, summed_mine, summed_other, waiting_open, waiting_over, waiting_other, Source, from_waiting}

-- a newer job does not change what a tick of the first one does
moved_newer : (t : Sporadic) (b c : Bool) (r n response later : ℕ) (p : Pending) (ps : List Pending) (u : Summary)
    → newer t b r n response (moved t c later p ps u) ≡ moved t c later p (cond b ps (ps ++ (pending r n ∷ []))) (newer t b r n response u)
moved_newer t true true r n response later p ps u =
    let e : 1 + (u.finished + 1) ≡ 1 + u.finished + 1 = omega arith in
    let m : cond (ltb t.deadline response) 1 0 + (u.missed + cond (ltb t.deadline (later - p.release)) 1 0) ≡ cond (ltb t.deadline response) 1 0 + u.missed + cond (ltb t.deadline (later - p.release)) 1 0 = omega arith in
    let l : max response (max u.longest (later - p.release)) ≡ max (max response u.longest) (later - p.release) = omega arith in
    λ k. record { waiting = ps; free = r + t.period; finished = e k; missed = m k; longest = l k }
moved_newer t true false r n response later p ps u = refl
moved_newer t false true r n response later p ps u = refl
moved_newer t false false r n response later p ps u = refl

-- where no other job waits, the newer one is the first
moved_alone : (t : Sporadic) (c : Bool) (r n response later : ℕ) (u : Summary) → u.waiting ≡ []
    → newer t c r (n + 1) (cond c (later - r) 0) u ≡ moved t c later (pending r n) [] (newer t false r n response u)
moved_alone t true r n response later u e =
    let f : 1 + u.finished ≡ u.finished + 1 = omega arith in
    let m : cond (ltb t.deadline (later - r)) 1 0 + u.missed ≡ u.missed + cond (ltb t.deadline (later - r)) 1 0 = omega arith in
    let l : max (later - r) u.longest ≡ max u.longest (later - r) = omega arith in
    λ k. record { waiting = e k; free = r + t.period; finished = f k; missed = m k; longest = l k }
moved_alone t false r n response later u e = λ k. record { waiting = e k ++ (pending r (n + 1) ∷ []); free = r + t.period; finished = u.finished; missed = u.missed; longest = u.longest }

-- jobs that are not x stay
pub untouched : (s : TaskSet) (done : Bool) (later : ℕ) (x : Work) (ws : List Work) → ((v : Work) → In v ws → same_work v x ≡ false) → map (given s done later x) ws ≡ ws
untouched s done later x [] h = refl
untouched s done later x (w ∷ ws) h = λ k. given_other s done later x w (h w (inl refl)) k ∷ untouched s done later x ws (λ v m. h v (inr m)) k

module _ (s : TaskSet) (done : Bool) (later : ℕ) (x : Work) where
  abbrev g : Work → Work
  g = given s done later x

  -- the jobs of other tasks stay
  pub summed_apart : (i : ℕ) → (x.task ≡ i → ⊥) → (ws : List Work) → summed s i (map g ws) ≡ summed s i ws
  unfolding summed
  summed_apart i ne [] = refl
  summed_apart i ne (w ∷ ws) = go (cases_Bool (same_work w x)) (summed_apart i ne ws)
    where
      not_mine : (v : Work) → v.task ≡ x.task → of_task i v ≡ false
      not_mine v e = two (cases_Bool (of_task i v))
        where
          two : (of_task i v ≡ true) ⊎ (of_task i v ≡ false) → of_task i v ≡ false
          two (inl h) = absurd (ne (sym e ∙ eqb-true v.task i h))
          two (inr h) = h

      go : (same_work w x ≡ true) ⊎ (same_work w x ≡ false) → summed s i (map g ws) ≡ summed s i ws → summed s i (g w ∷ map g ws) ≡ summed s i (w ∷ ws)
      go (inl e) rest =
          let t = (same_facts w x e).0 in
          summed_other s i (g w) (map g ws) (not_mine (g w) (given_task s done later x w ∙ t)) ∙ rest ∙ sym (summed_other s i w ws (not_mine w t))
      go (inr e) rest = ap (λ v. summed s i (v ∷ map g ws)) (given_other s done later x w e) ∙ ap (λ u. cond (of_task i w) (newer (task_at s i) w.finished w.release w.ran w.response u) u) rest

  -- the first waiting job of its task gets the tick
  pub summed_served : (j : ℕ) (p : Pending) (ps : List Pending) → x.task ≡ j → x.release ≡ p.release → (ws : List Work) → Apart ws → (summed s j ws).waiting ≡ p ∷ ps
      → summed s j (map g ws) ≡ moved (task_at s j) (ends_now (task_at s j) done p) later p ps (summed s j ws)
  unfolding summed
  summed_served j p ps mine at [] far e = let z : ◌≡◌ {A = ℕ} 0 1 = cc in absurd (omega arith)
  summed_served j p ps mine at (w ∷ ws) far e = go (cases_Bool (of_task j w)) (cases_Bool w.finished) (λ rs d. summed_served j p rs mine at ws far.1 d)
    where
      over : Bool
      over = ends_now (task_at s j) done p

      T : Sporadic
      T = task_at s j

      -- the job behind p, where it is older than w
      not_this : (us : List Pending) → (summed s j ws).waiting ≡ p ∷ us → same_work w x ≡ false
      not_this us d = two (cases_Bool (same_work w x))
        where
          source : Source s j ws p
          source = from_waiting s j ws p (subst (In p) (sym d) (inl refl))

          two : (same_work w x ≡ true) ⊎ (same_work w x ≡ false) → same_work w x ≡ false
          two (inl h) =
              let k = same_facts w x h in
              let v = source.work in
              absurd (both_ways (same_work v w) (far.0 v source.inside) (same_from v w (source.mine ∙ sym mine ∙ sym k.0) (ap (λ (z : Pending). z.release) source.is ∙ sym at ∙ sym k.1)))
          two (inr h) = h

      -- w is as it was, and the tick is behind it
      behind : (b : Bool) → w.finished ≡ b → w.task ≡ j → (us : List Pending) → (summed s j ws).waiting ≡ p ∷ us → cond b us (us ++ (pending_of w ∷ [])) ≡ ps → summed s j (map g ws) ≡ moved T over later p us (summed s j ws) → summed s j (g w ∷ map g ws) ≡ moved T over later p ps (summed s j (w ∷ ws))
      behind b f t us d shape rest =
          ap (λ v. summed s j (v ∷ map g ws)) (given_other s done later x w (not_this us d))
          ∙ summed_mine s j w (map g ws) t
          ∙ ap (λ u. newer T w.finished w.release w.ran w.response u) rest
          ∙ ap (λ c. newer T c w.release w.ran w.response (moved T over later p us (summed s j ws))) f
          ∙ moved_newer T b over w.release w.ran w.response later p us (summed s j ws)
          ∙ ap (λ rs. moved T over later p rs (newer T b w.release w.ran w.response (summed s j ws))) shape
          ∙ ap (λ c. moved T over later p ps (newer T c w.release w.ran w.response (summed s j ws))) (sym f)
          ∙ ap (λ u. moved T over later p ps u) (sym (summed_mine s j w ws t))

      go : (of_task j w ≡ true) ⊎ (of_task j w ≡ false) → (w.finished ≡ true) ⊎ (w.finished ≡ false) → ((rs : List Pending) → (summed s j ws).waiting ≡ p ∷ rs → summed s j (map g ws) ≡ moved T over later p rs (summed s j ws)) → summed s j (g w ∷ map g ws) ≡ moved T over later p ps (summed s j (w ∷ ws))
      go (inr a) b rest =
          let d = sym (waiting_other s j w ws a) ∙ e in
          ap (λ v. summed s j (v ∷ map g ws)) (given_other s done later x w (not_this ps d)) ∙ summed_other s j w (map g ws) a ∙ rest ps d ∙ ap (λ u. moved T over later p ps u) (sym (summed_other s j w ws a))
      go (inl a) (inl b) rest = let t = eqb-true w.task j a in let d = sym (waiting_over s j w ws t b) ∙ e in behind true b t ps d refl (rest ps d)
      go (inl a) (inr b) rest = split (summed s j ws).waiting refl (sym (waiting_open s j w ws (eqb-true w.task j a) b) ∙ e)
        where
          t : w.task ≡ j
          t = eqb-true w.task j a

          split : (us : List Pending) → (summed s j ws).waiting ≡ us → us ++ (pending_of w ∷ []) ≡ p ∷ ps → summed s j (g w ∷ map g ws) ≡ moved T over later p ps (summed s j (w ∷ ws))
          split (u ∷ us) d f = let h : u ≡ p = cc in let k : us ++ (pending_of w ∷ []) ≡ ps = cc in behind false b t us (d ∙ ap (λ z. z ∷ us) h) k (rest us (d ∙ ap (λ z. z ∷ us) h))
          split [] d f = alone
            where
              is : pending_of w ≡ p
              is = cc

              none : [] ≡ ps
              none = cc

              key_task : x.task ≡ w.task
              key_task = mine ∙ sym t

              key_release : x.release ≡ w.release
              key_release = at ∙ sym (ap (λ (z : Pending). z.release) is)

              others : map g ws ≡ ws
              others = untouched s done later x ws (λ v m. ap (λ n. eqb v.task n && eqb v.release x.release) key_task ∙ ap (λ n. eqb v.task w.task && eqb v.release n) key_release ∙ far.0 v m)

              now_over : ends s done w ≡ ends_now T done (pending_of w)
              now_over = ap (λ i. done || leb (task_at s i).cost (w.ran + 1)) t

              alone : summed s j (g w ∷ map g ws) ≡ moved T over later p ps (summed s j (w ∷ ws))
              alone =
                  ap (λ vs. summed s j (g w ∷ vs)) others
                  ∙ ap (λ v. summed s j (v ∷ ws)) (given_same s done later x w (same_from w x (sym key_task) (sym key_release)))
                  ∙ summed_mine s j (run_one s done later w) ws t
                  ∙ ap (λ c. newer T c w.release (w.ran + 1) (cond c (later - w.release) 0) (summed s j ws)) now_over
                  ∙ moved_alone T (ends_now T done (pending_of w)) w.release w.ran w.response later (summed s j ws) d
                  ∙ ap (λ c. moved T (ends_now T done (pending_of w)) later (pending_of w) [] (newer T c w.release w.ran w.response (summed s j ws))) (sym b)
                  ∙ ap (λ u. moved T (ends_now T done (pending_of w)) later (pending_of w) [] u) (sym (summed_mine s j w ws t))
                  ∙ ap (λ q. moved T (ends_now T done q) later q [] (summed s j (w ∷ ws))) is
                  ∙ ap (λ rs. moved T over later p rs (summed s j (w ∷ ws))) none
