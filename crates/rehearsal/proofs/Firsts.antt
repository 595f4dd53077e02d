-- From the lowest-numbered task that is due after a tick to the first miss of a worst course.
use Rattle.std.proofs.Common.{◌≡◌, ℕ, ◌+◌, ◌-◌, ◌<◌, ◌≤◌, min, true, false, leb, ◌⊎◌, [], ◌∷◌, ◌++◌, Some, None, Ok, Option, sym, refl, ap, ◌∙◌, subst, inl, inr, add-one, arith}
use Rattle.std.proofs.lemmas.Bool.{both_ways, cases_Bool, cases_lt, cond-true, cond-false, leb-true, leb-false}
use Rattle.table.specs.Rules.{TaskSet, Checked, task_at, task_count}
use Rattle.table.proofs.Ranges.{task_ranges}
use Rattle.policy.specs.Order.{Order}
use Rattle.policy.specs.Laws.{Lawful}
use Rattle.theory.specs.Lists.{In}
use Rattle.theory.specs.Machine.{Work, State, tick, play, last_time}
use Rattle.theory.specs.Course.{lead, releases_below, course_until}
use Rattle.theory.specs.Guarantee.{OverdueAfter}
use Rattle.theory.proofs.MachineFacts.{Spaced, facts_after}
use Rattle.theory.proofs.Search.{none_some, some_same}
use Rattle.dispatch.specs.Oldest.{oldest_waiting}
use Rattle.dispatch.specs.Represents.{Answered}
use Rattle.dispatch.specs.declared.station.Station.{Station}
use Rattle.rehearsal.specs.Due.{if_due, due_of, DueFirst}
use Rattle.analysis.specs.declared.rows.Row.{Row}
use Rattle.courses.specs.declared.course.Course.{Course}
use Rattle.rehearsal.specs.FirstMiss.{course_at, FirstMiss, MissedFirst, Sought}
use Rattle.rehearsal.specs.Rehearsed.{playable}
use Rattle.rehearsal.specs.ToPlay.{ToPlay}
use Rattle.rehearsal.specs.declared.misses.Miss.{Miss}
use Rattle.rehearsal.proofs.Clock.{course_time}
use Rattle.rehearsal.proofs.Oldest.{oldest_in, oldest_least}
use Rattle.rehearsal.proofs.Overdue.{due_next, none_later}
use Rattle.rehearsal.proofs.Seeing.{course_more}

-- what a test of one release tells
due_none : (D time q : ℕ) → if_due D time (Some q) ≡ None → q + D ≤ time → ⊥
due_none D time q e le = go (cases_Bool (leb D (time - q)))
  where
    go : (leb D (time - q) ≡ true) ⊎ (leb D (time - q) ≡ false) → ⊥
    go (inl b) = none_some (sym e ∙ cond-true (leb D (time - q)) (Some q) None b)
    go (inr b) = omega (arith, leb-false D (time - q) b, le)

due_some : (D time r : ℕ) (q : Option ℕ) → 1 ≤ D → if_due D time q ≡ Some r → (q ≡ Some r) × (r + D ≤ time)
due_some D time r None low e = absurd (none_some e)
due_some D time r (Some q) low e = go (cases_Bool (leb D (time - q)))
  where
    go : (leb D (time - q) ≡ true) ⊎ (leb D (time - q) ≡ false) → (Some q ≡ Some r) × (r + D ≤ time)
    go (inl b) =
        let same : q ≡ r = some_same (sym (cond-true (leb D (time - q)) (Some q) None b) ∙ e) in
        (ap Some same, omega (arith, same, leb-true D (time - q) b, low))
    go (inr b) = absurd (none_some (sym (cond-false (leb D (time - q)) (Some q) None b) ∙ e))

-- a task with an overdue job is due
not_due : (s : TaskSet) (st : State) (time : ℕ) → Spaced s st.jobs → (w : Work) → In w st.jobs → w.finished ≡ false → due_of s st time w.task ≡ None → w.release + (task_at s w.task).deadline ≤ time → ⊥
not_due s st time far w m open_job e late =
    let least = oldest_least s st far w m open_job in
    due_none (task_at s w.task).deadline time least.0 (ap (if_due (task_at s w.task).deadline time) (sym least.1) ∙ e) (omega (arith, least.2, late))

module _ (s : TaskSet) (o : Order) (i a : ℕ) where
  -- the course is played up to t, and no job was overdue on it
  pub record CleanTo (t : ℕ) (d : Station) : Type 0 where
    pub played : Answered o d (course_until s o i a t)
    pub none : MissedFirst s o i a t None

  none_at_start : OverdueAfter s o (course_until s o i a 0) → ⊥
  unfolding course_until play
  none_at_start (w, m, open_job, due) = m

  pub clean_start : (d : Station) → Answered o d [] → CleanTo 0 d
  unfolding course_until
  clean_start d h = record { played = h; none = λ t le late. let at_start : t ≡ 0 = omega arith in none_at_start (subst (λ n. OverdueAfter s o (course_until s o i a n)) at_start late) }

  pub answered_next : (t : ℕ) (e : Station) → Answered o e ((course_until s o i a t ++ releases_below s o i a t (task_count s)) ++ (tick false ∷ [])) → Answered o e (course_until s o i a (t + 1))
  answered_next t e h = subst (λ cs. Answered o e cs) (sym (ap (course_until s o i a) (add-one t) ∙ course_more 0 0 s o i a t)) h

module _ (s : TaskSet) (o : Order) (checked : Checked s) (law : Lawful s o) (i a : ℕ) where
  module _ (t : ℕ) (early : t < last_time) (none : MissedFirst s o i a t None) where
    here : State
    here = course_at s o i a (t + 1)

    far : Spaced s here.jobs
    unfolding here
    far = (facts_after s o checked law (course_until s o i a (t + 1))).spaced

    now_is : here.time ≡ t + 1
    unfolding here
    now_is = omega (arith, course_time s o i a (t + 1))

    -- no task is due, so no job is overdue
    pub clean_more : (e : Station) → Answered o e (course_until s o i a (t + 1)) → DueFirst s (course_at s o i a (t + 1)) (t + 1) None → CleanTo s o i a (t + 1) e
    unfolding here
    clean_more e played early-all = record { played = played; none = λ u le late. go u le (cases_lt u (t + 1)) late }
      where
        last : OverdueAfter s o (course_until s o i a (t + 1)) → ⊥
        last (w, m, open_job, due) = not_due s here (t + 1) far w m open_job (early-all w.task ((facts_after s o checked law (course_until s o i a (t + 1))).known w m)) (omega (arith, due, now_is))

        go : (u : ℕ) → u ≤ t + 1 → (u < t + 1) ⊎ (t + 1 ≤ u) → OverdueAfter s o (course_until s o i a u) → ⊥
        go u le (inl lt) late = none u (omega arith) late
        go u le (inr ge) late = let same : u ≡ t + 1 = omega arith in last (subst (λ n. OverdueAfter s o (course_until s o i a n)) same late)

    -- the lowest-numbered task that is due has missed its deadline now, and none did before
    pub first_found : (end : ℕ) (m : Miss) → t < end → DueFirst s (course_at s o i a (t + 1)) (t + 1) (Some m) → FirstMiss s o i a end m
    unfolding here
    first_found end m inside (known, is, at, lower) = found (oldest_in here m.task m.release reached.0)
      where
        reached : (oldest_waiting here m.task ≡ Some m.release) × (m.release + (task_at s m.task).deadline ≤ t + 1)
        reached = due_some (task_at s m.task).deadline (t + 1) m.release (oldest_waiting here m.task) (task_ranges s checked m.task known).deadline_low is

        lowest : (w : Work) → In w here.jobs → w.finished ≡ false → w.release + (task_at s w.task).deadline ≤ t + 1 → m.task ≤ w.task
        lowest w k open_job late = go (cases_lt w.task m.task)
          where
            go : (w.task < m.task) ⊎ (m.task ≤ w.task) → m.task ≤ w.task
            go (inl lt) = absurd (not_due s here (t + 1) far w k open_job (lower w.task lt) late)
            go (inr le) = le

        found : (w : Work) × In w here.jobs × (w.finished ≡ false) × (w.task ≡ m.task) × (w.release ≡ m.release) → FirstMiss s o i a end m
        found (w, k, open_job, of_task, released) = record {
          on_course = omega (arith, at);
          clock = omega (arith, at, course_time s o i a m.time);
          unfinished = subst (λ n. (w : Work) × In w (course_at s o i a n).jobs × (w.finished ≡ false) × (w.task ≡ m.task) × (w.release ≡ m.release)) (sym at) (w, k, open_job, of_task, released);
          due = omega (arith, at, reached.1, released, ap (λ j. (task_at s j).deadline) of_task, due_next s o checked law i a t (none t (omega arith)) w (subst (λ n. In w (course_at s o i a n).jobs) (add-one t) k) open_job, course_time s o i a t);
          none_before = λ u lt. none u (omega (arith, at));
          lowest = λ v l shut late. lowest v (subst (λ n. In v (course_at s o i a n).jobs) at l) shut (omega (arith, at, late));
        }

  -- up to where the clock ends is as far as any
  pub whole_course : (end cut : ℕ) (got : Option Miss) → cut ≡ min end last_time → MissedFirst s o i a cut got → MissedFirst s o i a end got
  whole_course end cut (Some m) is first = record {
    on_course = omega (arith, is, first.on_course);
    clock = first.clock;
    unfinished = first.unfinished;
    due = first.due;
    none_before = first.none_before;
    lowest = first.lowest;
  }
  whole_course end cut None is none = λ t le late. go (cases_lt last_time end) t le late
    where
      go : (last_time < end) ⊎ (end ≤ last_time) → (t : ℕ) → t ≤ end → OverdueAfter s o (course_until s o i a t) → ⊥
      go (inl lt) t le late = none_later s o checked law i a (λ u low. none u (omega (arith, is))) t late
      go (inr ge) t le late = none t (omega (arith, is)) late

-- a row that is out of range meets no deadline's miss
pub sought_none : (s : TaskSet) (o : Order) (i : ℕ) (row : Row) → ToPlay s o i row (Ok None) → Sought s o i row (Ok None)
sought_none s o i row found = (found.0, (λ told. absurd (both_ways (playable row) found.1 told)), (λ out. refl))

-- and one in range the first along its course, which is played no further than the clock goes
pub sought_along : (s : TaskSet) (o : Order) → Checked s → Lawful s o → (i : ℕ) (row : Row) (c : Course) (end : ℕ) → ToPlay s o i row (Ok (Some (c, end)))
    → (cut : ℕ) → cut ≡ min end last_time → (got : Option Miss) → MissedFirst s o c.task c.offset cut got → Sought s o i row (Ok got)
sought_along s o checked law i row c end found cut short got first =
    let arrives : end ≡ lead s o c.task c.offset + c.offset + row.response = found.5 ∙ ap (λ n. n + c.offset + row.response) found.4.ticks in
    let whole = whole_course s o checked law c.task c.offset (lead s o c.task c.offset + c.offset + row.response) cut got (omega (arith, short, arrives)) first in (
      found.0,
      (λ told. subst (λ k. MissedFirst s o k row.offset (lead s o k row.offset + row.offset + row.response) got) found.2
          (subst (λ a. MissedFirst s o c.task a (lead s o c.task a + a + row.response) got) found.3 whole)),
      (λ out. absurd (both_ways (playable row) out found.1)),
    )
