-- What is seen along a list of calls, and along a worst course.
use Rattle.std.proofs.Common.{◌≡◌, ℕ, zero, suc, Bool, true, false, cond, List, [], ◌∷◌, ◌++◌, Some, None, Option, sym, refl, ap, ◌∙◌, append_assoc, append-nil}
use Rattle.table.specs.Rules.{TaskSet, task_count}
use Rattle.table.specs.declared.refusal.Refusal.{Refusal}
use Rattle.policy.specs.Order.{Order}
use Rattle.theory.specs.Machine.{State, Call, Answer, release, tick, refusal, answer, answer_by, answers, play, start, or_else}
use Rattle.theory.specs.Course.{releases_at, releases_below, course_until}
use Rattle.theory.proofs.Accepted.{answers_join}
use Rattle.rehearsal.specs.Seen.{seen, told_by}

else_none : (x : Option ℕ) → or_else x None ≡ x
else_none None = refl
else_none (Some v) = refl

else_assoc : (x y z : Option ℕ) → or_else (or_else x y) z ≡ or_else x (or_else y z)
else_assoc None y z = refl
else_assoc (Some v) y z = refl

module _ (i arrival : ℕ) where
  seen_snoc : (xs : List Answer) (x : Answer) → seen i arrival (xs ++ (x ∷ [])) ≡ or_else (told_by i arrival x) (seen i arrival xs)
  unfolding seen
  seen_snoc [] x = sym (else_none (told_by i arrival x))
  seen_snoc (y ∷ ys) x = ap (λ q. or_else q (told_by i arrival y)) (seen_snoc ys x) ∙ else_assoc (told_by i arrival x) (seen i arrival ys) (told_by i arrival y)

  module _ (s : TaskSet) (o : Order) where
    -- what is seen with one more call
    seen_call : (cs : List Call) (c : Call) → seen i arrival (answers s o start (cs ++ (c ∷ []))) ≡ or_else (told_by i arrival (answer s o (play s o start cs) c)) (seen i arrival (answers s o start cs))
    unfolding answers
    seen_call cs c = ap (seen i arrival) (answers_join s o start cs (c ∷ [])) ∙ seen_snoc (answers s o start cs) (answer s o (play s o start cs) c)

    -- a release tells of no response
    release_tells : (st : State) (j : ℕ) → told_by i arrival (answer s o st (release j)) ≡ None
    unfolding answer
    release_tells st j = go (refusal s st (release j))
      where
        go : (q : Option Refusal) → told_by i arrival (answer_by s o st (release j) q) ≡ None
        go None = refl
        go (Some e) = refl

    seen_release : (cs : List Call) (j : ℕ) → seen i arrival (answers s o start (cs ++ (release j ∷ []))) ≡ seen i arrival (answers s o start cs)
    seen_release cs j = seen_call cs (release j) ∙ ap (λ q. or_else q (seen i arrival (answers s o start cs))) (release_tells (play s o start cs) j)

    module _ (k a : ℕ) where
      seen_releases : (t n : ℕ) (cs : List Call) → seen i arrival (answers s o start (cs ++ releases_below s o k a t n)) ≡ seen i arrival (answers s o start cs)
      unfolding releases_below
      seen_releases t zero cs = ap (λ zs. seen i arrival (answers s o start zs)) (append-nil cs)
      seen_releases t (suc n) cs =
          ap (λ zs. seen i arrival (answers s o start zs)) (sym (append_assoc cs (releases_below s o k a t n) (cond (releases_at s o k a n t) (release n ∷ []) []))) ∙ go (releases_at s o k a n t) ∙ seen_releases t n cs
        where
          go : (b : Bool) → seen i arrival (answers s o start ((cs ++ releases_below s o k a t n) ++ cond b (release n ∷ []) [])) ≡ seen i arrival (answers s o start (cs ++ releases_below s o k a t n))
          go true = seen_release (cs ++ releases_below s o k a t n) n
          go false = ap (λ zs. seen i arrival (answers s o start zs)) (append-nil (cs ++ releases_below s o k a t n))

      -- the calls up to the next tick, and what is seen with them
      pub course_more : (t : ℕ) → course_until s o k a (suc t) ≡ (course_until s o k a t ++ releases_below s o k a t (task_count s)) ++ (tick false ∷ [])
      unfolding course_until
      course_more t = sym (append_assoc (course_until s o k a t) (releases_below s o k a t (task_count s)) (tick false ∷ []))

      pub seen_tick : (t : ℕ) → seen i arrival (answers s o start (course_until s o k a (suc t))) ≡ or_else (told_by i arrival (answer s o (play s o start (course_until s o k a t ++ releases_below s o k a t (task_count s))) (tick false))) (seen i arrival (answers s o start (course_until s o k a t)))
      seen_tick t =
          let before = course_until s o k a t ++ releases_below s o k a t (task_count s) in
          ap (λ zs. seen i arrival (answers s o start zs)) (course_more t) ∙ seen_call before (tick false) ∙ ap (or_else (told_by i arrival (answer s o (play s o start before) (tick false)))) (seen_releases t (task_count s) (course_until s o k a t))

      pub releases_more : (t n : ℕ) (cs : List Call) → cs ++ releases_below s o k a t (suc n) ≡ (cs ++ releases_below s o k a t n) ++ cond (releases_at s o k a n t) (release n ∷ []) []
      unfolding releases_below
      releases_more t n cs = sym (append_assoc cs (releases_below s o k a t n) (cond (releases_at s o k a n t) (release n ∷ []) []))

-- the last answer counts
pub seen_last : (i arrival response : ℕ) (before xs : List Answer) (x : Answer) → xs ≡ before ++ (x ∷ []) → told_by i arrival x ≡ Some response → seen i arrival xs ≡ Some response
seen_last i arrival response before xs x is tells = ap (seen i arrival) is ∙ seen_snoc i arrival before x ∙ ap (λ q. or_else q (seen i arrival before)) tells
