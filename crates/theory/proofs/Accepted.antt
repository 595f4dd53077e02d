-- Lists of calls of which none is refused.
use Rattle.std.proofs.Common.{◌≡◌, ℕ, ◌+◌, ◌-◌, Bool, true, false, ◌⊎◌, List, [], ◌∷◌, ◌++◌, Some, None, Option, refl, ap, ◌∙◌, inl, inr, arith}
use Rattle.std.proofs.lemmas.Bool.{cases_Bool, cond-true, cond-false}
use Rattle.table.specs.Rules.{TaskSet}
use Rattle.table.specs.declared.refusal.Refusal.{Refusal}
use Rattle.policy.specs.Order.{Order}
use Rattle.theory.specs.Lists.{In}
use Rattle.theory.specs.Machine.{Work, State, Call, release, tick, look, Refused, Ran, Finished, refusal, accept, reply, told, ends, step, step_by, answer, answer_by, play, answers}

module _ (s : TaskSet) (o : Order) where
  abbrev pub Accepted : State → List Call → Type 0
  Accepted st [] = Unit {0}
  Accepted st (c ∷ cs) = (refusal s st c ≡ None) × Accepted (step s o st c) cs

  pub step_accept : (st : State) (c : Call) → refusal s st c ≡ None → step s o st c ≡ accept s o st c
  unfolding step
  step_accept st c h = ap (step_by s o st c) h

  pub answer_accept : (st : State) (c : Call) → refusal s st c ≡ None → answer s o st c ≡ reply s o st c
  unfolding answer
  answer_accept st c h = ap (answer_by s o st c) h

  pub answers_join : (st : State) (xs ys : List Call) → answers s o st (xs ++ ys) ≡ answers s o st xs ++ answers s o (play s o st xs) ys
  unfolding play answers
  answers_join st [] ys = refl
  answers_join st (x ∷ xs) ys = ap (λ zs. answer s o st x ∷ zs) (answers_join (step s o st x) xs ys)

  pub accepted_join : (st : State) (xs ys : List Call) → Accepted st xs → Accepted (play s o st xs) ys → Accepted st (xs ++ ys)
  unfolding play
  accepted_join st [] ys a b = b
  accepted_join st (x ∷ xs) ys a b = (a.0, accepted_join (step s o st x) xs ys a.1 b)

  pub accepted_front : (st : State) (xs ys : List Call) → Accepted st (xs ++ ys) → Accepted st xs
  accepted_front st [] ys a = tt
  accepted_front st (x ∷ xs) ys a = (a.0, accepted_front (step s o st x) xs ys a.1)

  pub accepted_back : (st : State) (xs ys : List Call) → Accepted st (xs ++ ys) → Accepted (play s o st xs) ys
  unfolding play
  accepted_back st [] ys a = a
  accepted_back st (x ∷ xs) ys a = accepted_back (step s o st x) xs ys a.1

  told_plain : (done : Bool) (later : ℕ) (r : Option Work) (e : Refusal) → Refused e ≡ told s done later r → ⊥
  told_plain done later None e h = let z : ◌≡◌ {A = ℕ} 0 1 = cc in omega arith
  told_plain done later (Some w) e h = go (cases_Bool (ends s done w))
    where
      go : (ends s done w ≡ true) ⊎ (ends s done w ≡ false) → ⊥
      go (inl f) = let q = cond-true (ends s done w) (Finished w.task w.release (later - w.release)) (Ran w.task w.release) f in let z : ◌≡◌ {A = ℕ} 0 1 = cc in omega arith
      go (inr f) = let q = cond-false (ends s done w) (Finished w.task w.release (later - w.release)) (Ran w.task w.release) f in let z : ◌≡◌ {A = ℕ} 0 1 = cc in omega arith

  reply_plain : (st : State) (c : Call) (e : Refusal) → Refused e ≡ reply s o st c → ⊥
  reply_plain st (release j) e h = let z : ◌≡◌ {A = ℕ} 0 1 = cc in omega arith
  reply_plain st (tick done) e h = told_plain done (st.time + 1) _ e h
  reply_plain st (look j) e h = let z : ◌≡◌ {A = ℕ} 0 1 = cc in omega arith

  -- none of its answers is a refusal
  pub accepted_plain : (st : State) (cs : List Call) → Accepted st cs → (e : Refusal) → In (Refused e) (answers s o st cs) → ⊥
  unfolding answers
  accepted_plain st [] a e m = m
  accepted_plain st (c ∷ cs) a e (inl h) = reply_plain st c e (h ∙ answer_accept st c a.0)
  accepted_plain st (c ∷ cs) a e (inr m) = accepted_plain (step s o st c) cs a.1 e m
