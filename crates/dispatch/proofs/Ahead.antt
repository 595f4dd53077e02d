-- What a policy's answers say of two first jobs, and the leading one along a loop.
use Rattle.std.proofs.Common.{◌≡◌, ℕ, ◌+◌, ◌<◌, ◌≤◌, Bool, true, false, cond, not, ◌&&◌, eqb, ◌⊎◌, pos, Some, None, Option, sym, refl, ap, ◌∙◌, subst, inl, inr, arith, below_more}
use Rattle.std.proofs.lemmas.Bool.Decides.{nat_tests}
use Rattle.std.proofs.lemmas.Int.{ints}
use Rattle.std.proofs.lemmas.Bool.{cases_Bool, both_ways, and_parts, and_from, eqb-true, eq-eqb}
use Rattle.table.specs.Rules.{TaskSet, task_count}
use Rattle.policy.specs.Answers.{ahead_answer, comparable}
use Rattle.policy.specs.Laws.{Lawful}
use Rattle.policy.specs.Order.{Order, job}
use Rattle.policy.specs.declared.job.Job.{Job}
use Rattle.theory.proofs.Orders.{job_task, job_release}
use Rattle.theory.proofs.Search.{none_some, some_same}
use Rattle.dispatch.specs.Leading.{first_release, head, head_job, better_of, Leading}
use Rattle.dispatch.specs.Summaries.{Summary}
use Rattle.dispatch.specs.declared.stage.Head.{Head}

module _ (s : TaskSet) (o : Order) where
  -- two jobs that the policy compares
  record Compared (k r i q : ℕ) : Type 0 where
    first : k < task_count s
    second : i < task_count s
    first_early : r ≤ 4000000000
    second_early : q ≤ 4000000000
    apart : (eqb k i && eqb r q) ≡ false
    ahead : o.ahead (job k (pos r)) (job i (pos q)) ≡ true

  compared : (k r i q : ℕ) → ahead_answer s o (job k (pos r)) (job i (pos q)) ≡ true → Compared k r i q
  compared k r i q h =
      let p = and_parts (comparable s (job k (pos r)) (job i (pos q))) (o.ahead (job k (pos r)) (job i (pos q))) h in
      let c : comparable s (job k (pos r)) (job i (pos q)) ≡ true = p.0 in
      record {
        first = grind (arith, ints, nat_tests);
        second = grind (arith, ints, nat_tests);
        first_early = grind (arith, ints, nat_tests);
        second_early = grind (arith, ints, nat_tests);
        apart = grind (arith, ints, nat_tests);
        ahead = p.1;
      }

  pub answers_ahead : (k r i q : ℕ) → k < task_count s → i < task_count s → r ≤ 4000000000 → q ≤ 4000000000 → (eqb k i && eqb r q) ≡ false → o.ahead (job k (pos r)) (job i (pos q)) ≡ true → ahead_answer s o (job k (pos r)) (job i (pos q)) ≡ true
  answers_ahead k r i q hk hi hr hq ne h = and_from (comparable s (job k (pos r)) (job i (pos q))) (o.ahead (job k (pos r)) (job i (pos q))) ok h
    where
      ok : comparable s (job k (pos r)) (job i (pos q)) ≡ true
      ok = grind (arith, ints, nat_tests)

  not_itself : (k r : ℕ) → ahead_answer s o (job k (pos r)) (job k (pos r)) ≡ false
  not_itself k r = go (cases_Bool (ahead_answer s o (job k (pos r)) (job k (pos r))))
    where
      go : (ahead_answer s o (job k (pos r)) (job k (pos r)) ≡ true) ⊎ (ahead_answer s o (job k (pos r)) (job k (pos r)) ≡ false) → ahead_answer s o (job k (pos r)) (job k (pos r)) ≡ false
      go (inl h) = absurd (both_ways (eqb k k && eqb r r) (compared k r k r h).apart (and_from (eqb k k) (eqb r r) (eq-eqb k k refl) (eq-eqb r r refl)))
      go (inr h) = h

  module _ (law : Lawful s o) where
    different : (k r i q : ℕ) → (eqb k i && eqb r q) ≡ false → job k (pos r) ≡ job i (pos q) → ⊥
    different k r i q h e = both_ways (eqb k i && eqb r q) h (and_from (eqb k i) (eqb r q) (eq-eqb k i (job_task e)) (eq-eqb r q (job_release e)))

    -- of two jobs not both are ahead
    one_way : (k r i q : ℕ) → Compared k r i q → o.ahead (job i (pos q)) (job k (pos r)) ≡ true → ⊥
    one_way k r i q c h = both_ways (o.ahead (job k (pos r)) (job i (pos q))) (law.total (job k (pos r)) (job i (pos q)) c.first c.second (different k r i q c.apart) ∙ ap not h) c.ahead

    answers_trans : (k r i q l t : ℕ) → ahead_answer s o (job k (pos r)) (job i (pos q)) ≡ true → ahead_answer s o (job i (pos q)) (job l (pos t)) ≡ true → ahead_answer s o (job k (pos r)) (job l (pos t)) ≡ true
    answers_trans k r i q l t h g = go (compared k r i q h) (compared i q l t g) (cases_Bool (eqb k l && eqb r t))
      where
        go : Compared k r i q → Compared i q l t → ((eqb k l && eqb r t) ≡ true) ⊎ ((eqb k l && eqb r t) ≡ false) → ahead_answer s o (job k (pos r)) (job l (pos t)) ≡ true
        go c d (inl e) =
            let p = and_parts (eqb k l) (eqb r t) e in
            absurd (one_way k r i q c (subst (λ z. o.ahead (job i (pos q)) (job z (pos r)) ≡ true) (sym (eqb-true k l p.0)) (subst (λ z. o.ahead (job i (pos q)) (job l (pos z)) ≡ true) (sym (eqb-true r t p.1)) d.ahead)))
        go c d (inr e) = answers_ahead k r l t c.first d.second c.first_early d.second_early e
            (law.transitive (job k (pos r)) (job i (pos q)) (job l (pos t)) c.first c.second d.second (different k r i q c.apart) (different i q l t d.apart) c.ahead d.ahead)

    -- one task more
    pub leading_more : (b : ℕ → Summary) (n : ℕ) (best : Option Head) → Leading (ahead_answer s o) b n best → Leading (ahead_answer s o) b (n + 1) (better_of (ahead_answer s o) best n (first_release (b n).waiting))
    leading_more b n best h = go (first_release (b n).waiting) refl best h
      where
        a : Job → Job → Bool
        a = ahead_answer s o

        -- no first job of task k is ahead of the head m
        Behind : Head → ℕ → Type 0
        Behind m k = (q : ℕ) → first_release (b k).waiting ≡ Some q → ahead_answer s o (job k (pos q)) (head_job m) ≡ false

        all : (m : Head) → ((k : ℕ) → k < n → Behind m k) → Behind m n → (k q : ℕ) → k < n + 1 → first_release (b k).waiting ≡ Some q → ahead_answer s o (job k (pos q)) (head_job m) ≡ false
        all m below here k q lt f = below_more (Behind m) n below here k lt q f

        own : (t : ℕ) → first_release (b n).waiting ≡ Some t → Behind (head n t) n
        own t e q f = subst (λ z. ahead_answer s o (job n (pos z)) (job n (pos t)) ≡ false) (some_same (sym e ∙ f)) (not_itself n t)

        pick : (t : ℕ) → first_release (b n).waiting ≡ Some t → (m : Head) → Leading (ahead_answer s o) b n (Some m) → (c : Bool) → ahead_answer s o (job n (pos t)) (head_job m) ≡ c → Leading (ahead_answer s o) b (n + 1) (cond c (Some (head n t)) (Some m))
        pick t e m (lt, is, none) true d = (omega arith, e, all (head n t) (λ k below q f. try k below q f (cases_Bool (ahead_answer s o (job k (pos q)) (job n (pos t))))) (own t e))
          where
            try : (k : ℕ) → k < n → (q : ℕ) → first_release (b k).waiting ≡ Some q → (ahead_answer s o (job k (pos q)) (job n (pos t)) ≡ true) ⊎ (ahead_answer s o (job k (pos q)) (job n (pos t)) ≡ false) → ahead_answer s o (job k (pos q)) (job n (pos t)) ≡ false
            try k below q f (inl g) = absurd (both_ways (ahead_answer s o (job k (pos q)) (head_job m)) (none k q below f) (answers_trans k q n t m.task m.release g d))
            try k below q f (inr g) = g
        pick t e m (lt, is, none) false d = (omega arith, is, all m (λ k below q f. none k q below f) (λ q f. subst (λ z. ahead_answer s o (job n (pos z)) (head_job m) ≡ false) (some_same (sym e ∙ f)) d))

        go : (f : Option ℕ) → first_release (b n).waiting ≡ f → (m : Option Head) → Leading (ahead_answer s o) b n m → Leading (ahead_answer s o) b (n + 1) (better_of (ahead_answer s o) m n f)
        go None e None g = below_more (λ k. first_release (b k).waiting ≡ None) n g e
        go None e (Some m) (lt, is, none) = (omega arith, is, all m (λ k below q f. none k q below f) (λ q f. absurd (none_some (sym e ∙ f))))
        go (Some t) e None g = (omega arith, e, all (head n t) (λ k below q f. absurd (none_some (sym (g k below) ∙ f))) (own t e))
        go (Some t) e (Some m) g = pick t e m g (ahead_answer s o (job n (pos t)) (head_job m)) refl
