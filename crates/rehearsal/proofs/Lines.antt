-- A timeline, one more mark at a time.
use Rattle.std.proofs.Common.{◌≡◌, ℕ, suc, ◌+◌, ◌<◌, ◌≤◌, false, List, [], ◌∷◌, ◌++◌, length, take, set, sym, refl, ap, ◌∙◌, subst, add-one, take_all}
use Rattle.std.proofs.lemmas.List.{take_more_set}
use Rattle.table.specs.Rules.{TaskSet}
use Rattle.policy.specs.Order.{Order}
use Rattle.theory.specs.Course.{releases_at, course_until}
use Rattle.theory.specs.Machine.{tick, start, play, answer}
use Rattle.dispatch.specs.Represents.{Answered}
use Rattle.dispatch.specs.declared.station.Station.{Station}
use Rattle.rehearsal.specs.Timeline.{mark, runs, before_tick, timeline}
use Rattle.rehearsal.proofs.Seeing.{course_more}

module _ (s : TaskSet) (o : Order) (i a j : ℕ) where
  -- the course is played up to t, and so many marks are drawn
  pub record DrawnTo (t : ℕ) (d : Station) (marks : List ℕ) : Type 0 where
    pub played : Answered o d (course_until s o i a t)
    pub drawn : take t marks ≡ timeline s o i a j t

  pub drawn_none : (d : Station) (marks : List ℕ) → Answered o d [] → DrawnTo 0 d marks
  unfolding course_until timeline
  drawn_none d marks h = record { played = h; drawn = refl }

  mark_more : (t : ℕ) → timeline s o i a j (suc t) ≡ timeline s o i a j t ++ (mark (releases_at s o i a j t) (runs j (answer s o (play s o start (before_tick s o i a t)) (tick false))) ∷ [])
  unfolding timeline
  mark_more t = refl

  pub drawn_more : (t : ℕ) (d e : Station) (marks : List ℕ) (x : ℕ) → t < length marks → DrawnTo t d marks
      → Answered o e (before_tick s o i a t ++ (tick false ∷ []))
      → x ≡ mark (releases_at s o i a j t) (runs j (answer s o (play s o start (before_tick s o i a t)) (tick false)))
      → DrawnTo (t + 1) e (set marks t x)
  drawn_more t d e marks x h so_far next is = record {
    played = subst (λ zs. Answered o e zs) (sym (ap (course_until s o i a) (add-one t) ∙ course_more 0 0 s o i a t)) next;
    drawn = take_more_set marks t x h ∙ ap (λ us. us ++ (x ∷ [])) so_far.drawn ∙ ap (λ y. timeline s o i a j t ++ (y ∷ [])) is ∙ sym (mark_more t) ∙ ap (timeline s o i a j) (sym (add-one t));
  }

  pub drawn_all : (t : ℕ) (d : Station) (marks : List ℕ) → length marks ≤ t → DrawnTo t d marks → marks ≡ timeline s o i a j t
  drawn_all t d marks h so_far = sym (take_all t marks h) ∙ so_far.drawn
