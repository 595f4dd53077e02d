-- One more release and one more tick of a worst course on a station.
use Rattle.std.proofs.Common.{◌≡◌, ℕ, ◌+◌, ◌<◌, Bool, false, cond, ◌&&◌, ltb, List, [], ◌∷◌, ◌++◌, Some, None, Option, sym, refl, ap, ◌∙◌, subst, append-nil, add-one}
use Rattle.std.specs.Option.{option_or}
use Rattle.std.proofs.lemmas.Bool.{lt-ltb}
use Rattle.table.specs.Model.{content}
use Rattle.table.specs.Rules.{TaskSet, task_count}
use Rattle.policy.specs.Order.{Order}
use Rattle.theory.specs.Machine.{Call, Answer, release, tick, start, play, answer, answers, or_else}
use Rattle.theory.specs.Course.{lead, releases_at, releases_below, course_until}
use Rattle.courses.specs.declared.course.Course.{Course}
use Rattle.dispatch.specs.Represents.{Answered, Answers}
use Rattle.dispatch.specs.declared.station.Station.{Station}
use Rattle.rehearsal.specs.Rehearsed.{shown}
use Rattle.rehearsal.specs.Seen.{seen, told_by}
use Rattle.rehearsal.proofs.Seeing.{releases_more, course_more, seen_tick}

-- the guard of a task's number holds inside the table
pub guarded : (j n : ℕ) (b c : Bool) → j < n → b ≡ c → (ltb j n && b) ≡ c
guarded j n b c h e = ap (λ x. x && b) (lt-ltb j n h) ∙ e

else_is : (x y : Option ℕ) → option_or x y ≡ or_else x y
else_is None y = refl
else_is (Some v) y = refl

module _ (s : TaskSet) (o : Order) where
  -- an answer in the words of the table that the station keeps
  pub answers_in : (d e : Station) (c : Call) (given : Answer) → content d.table ≡ s → Answers o d e c given → (cs : List Call) → Answered o d cs → Answered o e (cs ++ (c ∷ [])) × (given ≡ answer s o (play s o start cs) c)
  answers_in d e c given same moved cs h =
      let next = moved cs h in
      (next.0, subst (λ u. given ≡ answer u o (play u o start cs) c) same next.1)

  module _ (k a t : ℕ) where
    pub released_none : (d : Station) (cs : List Call) → Answered o d cs → Answered o d (cs ++ releases_below s o k a t 0)
    unfolding releases_below
    released_none d cs h = subst (λ zs. Answered o d zs) (sym (append-nil cs)) h

    pub released_more : (c d e : Station) (n : ℕ) (told : Bool) → told ≡ releases_at s o k a n t
        → ((cs : List Call) → Answered o c cs → Answered o d (cs ++ releases_below s o k a t n))
        → ((cs : List Call) → Answered o d cs → Answered o e (cs ++ cond told (release n ∷ []) []))
        → (cs : List Call) → Answered o c cs → Answered o e (cs ++ releases_below s o k a t (n + 1))
    released_more c d e n told is before next cs h =
        let grown = ap (λ m. cs ++ releases_below s o k a t m) (add-one n) ∙ releases_more 0 0 s o k a t n cs ∙ ap (λ b. (cs ++ releases_below s o k a t n) ++ cond b (release n ∷ []) []) (sym is) in
        subst (λ zs. Answered o e zs) (sym grown) (next (cs ++ releases_below s o k a t n) (before cs h))

  -- the course so far is played, and this is what it showed
  pub record Shown (k a t : ℕ) (d : Station) (arrival : ℕ) (got : Option ℕ) : Type 0 where
    pub played : Answered o d (course_until s o k a t)
    pub saw : got ≡ seen k arrival (answers s o start (course_until s o k a t))

  module _ (k a arrival : ℕ) where
    pub shown_none : (d : Station) → Answered o d [] → Shown k a 0 d arrival None
    unfolding course_until answers seen
    shown_none d h = record { played = h; saw = refl }

    pub shown_more : (t : ℕ) (d e : Station) (got told next : Option ℕ) → Shown k a t d arrival got
        → Answered o e ((course_until s o k a t ++ releases_below s o k a t (task_count s)) ++ (tick false ∷ []))
        → told ≡ told_by k arrival (answer s o (play s o start (course_until s o k a t ++ releases_below s o k a t (task_count s))) (tick false))
        → next ≡ or_else told got
        → Shown k a (t + 1) e arrival next
    shown_more t d e got told next so_far h tells is = record {
      played = subst (λ zs. Answered o e zs) (sym (ap (course_until s o k a) (add-one t) ∙ course_more k arrival s o k a t)) h;
      saw = is ∙ else_is told got ∙ ap (λ q. or_else q got) tells ∙ ap (or_else (told_by k arrival (answer s o (play s o start (course_until s o k a t ++ releases_below s o k a t (task_count s))) (tick false)))) so_far.saw ∙ sym (seen_tick k arrival s o k a t) ∙ ap (λ m. seen k arrival (answers s o start (course_until s o k a m))) (sym (add-one t));
    }

  -- a course that is played to its end shows what the worst course shows
  pub shown_is : (c : Course) (i a r end : ℕ) → c.task ≡ i → c.offset ≡ a → c.lead.ticks ≡ lead s o c.task c.offset → end ≡ (c.lead.ticks + c.offset) + r
      → seen c.task (c.lead.ticks + c.offset) (answers s o start (course_until s o c.task c.offset end)) ≡ shown s o i a r
  shown_is c i a r end of_task at_offset ticks ends =
      let arrives : c.lead.ticks + c.offset ≡ lead s o i a + a = ap (λ x. x + c.offset) ticks ∙ ap (λ k. lead s o k c.offset + c.offset) of_task ∙ ap (λ b. lead s o i b + b) at_offset in
      ap (λ k. seen k (c.lead.ticks + c.offset) (answers s o start (course_until s o k c.offset end))) of_task
      ∙ ap (λ b. seen i (c.lead.ticks + c.offset) (answers s o start (course_until s o i b end))) at_offset
      ∙ ap (λ z. seen i z (answers s o start (course_until s o i a end))) arrives
      ∙ ap (λ n. seen i (lead s o i a + a) (answers s o start (course_until s o i a n))) (ends ∙ ap (λ z. z + r) arrives)
