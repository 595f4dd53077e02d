-- A tick that gives x a turn keeps the window of every job K.
use Rattle.std.proofs.Common.{◌≡◌, ℕ, suc, ◌+◌, ◌<◌, ◌≤◌, Bool, true, false, cond, not, ◌&&◌, leb, ◌⊎◌, map, sym, refl, ap, ◌∙◌, inl, inr, arith}
use Rattle.std.proofs.lemmas.Bool.{cases_Bool, cases_lt, both_ways, cond-true, cond-false, and_parts, and_from, and_left, leb-false, le-leb, or_parts, not-true, and_cases, not-false}
use Rattle.table.specs.Rules.{TaskSet, Checked, task_at}
use Rattle.table.specs.declared.kinds.Mode.TheVariants.{NonPreemptive}
use Rattle.policy.specs.Order.{Order}
use Rattle.policy.specs.Laws.{Lawful}
use Rattle.theory.specs.Lists.{In, any}
use Rattle.theory.specs.Machine.{Work, State, begun, same_work, run_one, ends}
use Rattle.theory.proofs.Orders.{leads}
use Rattle.theory.proofs.Search.{in_map, from_map, any_some, any_none}
use Rattle.theory.proofs.Works.{tests, asked, served, total_zero, given, given_tests, given_release, asked_given, served_given}
use Rattle.theory.proofs.MachineFacts.{Facts, On, facts_apart, given_cases, on_served, facts_served}
use Rattle.theory.proofs.Window.{Window, Held, Left, NotFinished, key, from_on, released_within, ahead_within, fresh, owed_last, owed_first}

module _ (s : TaskSet) (o : Order) (checked : Checked s) (law : Lawful s o) (i A : ℕ) (st : State) (done : Bool) (f : Facts s st) (x : Work) (inside : In x st.jobs) (waits_x : x.finished ≡ false)
    (only : s.mode ≡ NonPreemptive → (v : Work) → In v st.jobs → On v → v ≡ x) where
  abbrev g : Work → Work
  g = given s done (st.time + 1) x

  abbrev later : State
  later = record { time = st.time + 1; jobs = map g st.jobs }

  abbrev x_later : Work
  x_later = run_one s done (st.time + 1) x

  facts_later : Facts s later
  facts_later = facts_served s o checked law st done f x inside waits_x only

  held_later : (w : Work) → In w (map g st.jobs) → Held s w → w ≡ x_later
  held_later w m h = on_served s o checked law st done f x inside waits_x (only h.0) w m h.1

  old_later : (w : Work) → In w (map g st.jobs) → w.release < st.time + 1
  old_later w m = go (from_map g st.jobs w m)
    where
      go : (u : Work) × In u st.jobs × (w ≡ g u) → w.release < st.time + 1
      go (u, k, e) = omega (arith, ap (λ z. z.release) e, given_release s done (st.time + 1) x u, f.past u k)

  -- an unfinished K was not finished before
  not_finished_before : NotFinished i A (map g st.jobs) → NotFinished i A st.jobs
  not_finished_before n v m h = go (given_cases s o checked law st done f x inside waits_x v m)
    where
      go : ((v ≡ x) × (g v ≡ x_later)) ⊎ ((same_work v x ≡ false) × (g v ≡ v)) → v.finished ≡ false
      go (inl (e, q)) = ap (λ z. z.finished) e ∙ waits_x
      go (inr (e, q)) = ap (λ z. z.finished) (sym q) ∙ n (g v) (in_map g st.jobs v m) (given_tests s done (st.time + 1) x v (key i A) ∙ h)

  -- a job of K's front that is left after the tick
  abbrev leftover : Work → Bool
  leftover w = tests (leads o i A) w && not w.finished

  none_left : any leftover (map g st.jobs) ≡ false → (w : Work) → In w (map g st.jobs) → tests (leads o i A) w ≡ true → w.finished ≡ true
  none_left h w m a = go (and_cases (tests (leads o i A) w) (not w.finished) (any_none leftover (map g st.jobs) h w m))
    where
      go : (tests (leads o i A) w ≡ false) ⊎ (not w.finished ≡ false) → w.finished ≡ true
      go (inl e) = absurd (both_ways (tests (leads o i A) w) e a)
      go (inr e) = not-false w.finished e

  module _ (win : Window s o i A st) where
    cleared_later : (w : Work) → In w (map g st.jobs) → tests (leads o i A) w ≡ true → w.release < win.opened → w.finished ≡ true
    cleared_later w m h lt = go (from_map g st.jobs w m)
      where
        go : (u : Work) × In u st.jobs × (w ≡ g u) → w.finished ≡ true
        go (u, k, e) = two (given_cases s o checked law st done f x inside waits_x u k)
          where
            was : u.finished ≡ true
            was = win.cleared u k (sym (given_tests s done (st.time + 1) x u (leads o i A)) ∙ ap (λ z. tests (leads o i A) z) (sym e) ∙ h) (omega (arith, ap (λ z. z.release) e, given_release s done (st.time + 1) x u))

            two : ((u ≡ x) × (g u ≡ x_later)) ⊎ ((same_work u x ≡ false) × (g u ≡ u)) → w.finished ≡ true
            two (inl (d, q)) = absurd (both_ways x.finished waits_x (ap (λ z. z.finished) (sym d) ∙ was))
            two (inr (d, q)) = ap (λ z. z.finished) (e ∙ q) ∙ was

    left_later : any leftover (map g st.jobs) ≡ true → Left s o i A win.opened (map g st.jobs)
    left_later h =
        let r = any_some leftover (map g st.jobs) h in
        let k = and_parts (tests (leads o i A) r.0) (not r.0.finished) r.2 in
        let n : r.0.finished ≡ false = not-true r.0.finished k.1 in
        (r.0, r.1, k.0, n, since r.0 r.1 k.0 n (cases_lt r.0.release win.opened))
      where
        since : (w : Work) → In w (map g st.jobs) → tests (leads o i A) w ≡ true → w.finished ≡ false → (w.release < win.opened) ⊎ (win.opened ≤ w.release) → win.opened ≤ w.release
        since w m a n (inl lt) = absurd (both_ways w.finished n (cleared_later w m a lt))
        since w m a n (inr le) = le

    -- the owed work of a later instant: as before, or the newest
    owed_later : (used : ℕ) → win.opened + (used + served (from_on o i A win.opened) (map g st.jobs)) ≡ st.time + 1 → used ≤ win.allowance → (used < win.allowance) ⊎ Left s o i A win.opened (map g st.jobs)
        → (t : ℕ) → 1 ≤ t → win.opened + t ≤ st.time + 1 → t < win.allowance + asked s (released_within o i A win.opened t) (map g st.jobs)
    owed_later used busy used_in left t low le = go (cases_lt st.time (win.opened + t))
      where
        go : (st.time < win.opened + t) ⊎ (win.opened + t ≤ st.time) → t < win.allowance + asked s (released_within o i A win.opened t) (map g st.jobs)
        go (inl lt) = owed_last s o i A later facts_later win.opened used win.allowance t old_later busy used_in left (omega arith)
        go (inr ge) = omega (arith, asked_given s done (st.time + 1) x (released_within o i A win.opened t) st.jobs, win.owed t low ge)

    -- x is of K's front
    module _ (lead_x : tests (leads o i A) x ≡ true) where
      since_opened : win.opened ≤ x.release
      since_opened = go (cases_lt x.release win.opened)
        where
          go : (x.release < win.opened) ⊎ (win.opened ≤ x.release) → win.opened ≤ x.release
          go (inl lt) = absurd (both_ways x.finished waits_x (win.cleared x inside lead_x lt))
          go (inr le) = le

      nothing_held : (w : Work) → In w (map g st.jobs) → Held s w → tests (leads o i A) w ≡ false → ⊥
      nothing_held w m h n = both_ways (tests (leads o i A) w) n (ap (λ z. tests (leads o i A) z) (held_later w m h) ∙ lead_x)

      busy_inside : win.opened + (win.used + served (from_on o i A win.opened) (map g st.jobs)) ≡ st.time + 1
      busy_inside = omega (
        arith,
        win.busy,
        served_given s done (st.time + 1) x (from_on o i A win.opened) st.jobs (facts_apart s st checked f) inside,
        cond-true {A = ℕ} (tests (from_on o i A win.opened) x) 1 0 (and_from (tests (leads o i A) x) (leb win.opened x.release) lead_x (le-leb win.opened x.release since_opened)),
      )

      before_inside : s.mode ≡ NonPreemptive → NotFinished i A (map g st.jobs) → (t : ℕ) → (win.opened + t) + served (key i A) (map g st.jobs) < st.time + 1 → t < win.allowance + asked s (ahead_within o i A win.opened t) (map g st.jobs)
      before_inside q n t lt = moved (two (cases_Bool (tests (key i A) x)))
        where
          was : NotFinished i A st.jobs
          was = not_finished_before n

          moved : t < win.allowance + asked s (ahead_within o i A win.opened t) st.jobs → t < win.allowance + asked s (ahead_within o i A win.opened t) (map g st.jobs)
          moved h = omega (arith, asked_given s done (st.time + 1) x (ahead_within o i A win.opened t) st.jobs)

          count : served (key i A) (map g st.jobs) ≡ served (key i A) st.jobs + cond (tests (key i A) x) 1 0
          count = served_given s done (st.time + 1) x (key i A) st.jobs (facts_apart s st checked f) inside

          -- K is not x and x is the only one that may be on
          idle : tests (key i A) x ≡ false → (w : Work) → In w st.jobs → tests (key i A) w ≡ true → w.ran ≡ 0
          idle other w m h = go (cases_Bool (begun w))
            where
              go : (begun w ≡ true) ⊎ (begun w ≡ false) → w.ran ≡ 0
              go (inl b) = absurd (both_ways (tests (key i A) x) other (ap (λ z. tests (key i A) z) (sym (only q w m (b, was w m h))) ∙ h))
              go (inr b) = omega (arith, leb-false 1 w.ran b)

          none : tests (key i A) x ≡ false → served (key i A) st.jobs ≡ 0
          none other = total_zero (λ w. cond (tests (key i A) w) w.ran 0) st.jobs (λ w m. at w m (cases_Bool (tests (key i A) w)))
            where
              at : (w : Work) → In w st.jobs → (tests (key i A) w ≡ true) ⊎ (tests (key i A) w ≡ false) → cond (tests (key i A) w) w.ran 0 ≡ 0
              at w m (inl e) = cond-true (tests (key i A) w) w.ran 0 e ∙ idle other w m e
              at w m (inr e) = cond-false (tests (key i A) w) w.ran 0 e

          two : (tests (key i A) x ≡ true) ⊎ (tests (key i A) x ≡ false) → t < win.allowance + asked s (ahead_within o i A win.opened t) st.jobs
          two (inl e) = win.owed_before q was t (omega (arith, count, cond-true {A = ℕ} (tests (key i A) x) 1 0 e))
          two (inr e) = three (cases_lt (win.opened + t) st.time)
            where
              three : (win.opened + t < st.time) ⊎ (st.time ≤ win.opened + t) → t < win.allowance + asked s (ahead_within o i A win.opened t) st.jobs
              three (inl less) = win.owed_before q was t (omega (arith, none e))
              three (inr ge) = owed_first s o i A st f win.opened win.used win.allowance t win.busy win.used_in x inside lead_x waits_x since_opened e (idle e) (omega (arith, count))

      pub window_inside : Window s o i A later
      window_inside = go (cases_Bool (any leftover (map g st.jobs)))
        where
          go : (any leftover (map g st.jobs) ≡ true) ⊎ (any leftover (map g st.jobs) ≡ false) → Window s o i A later
          go (inr h) = fresh s o i A later facts_later (none_left h) 0 (inl refl) (λ w m k n. absurd (nothing_held w m k n))
          go (inl h) = record {
            opened = win.opened;
            allowance = win.allowance;
            used = win.used;
            busy = busy_inside;
            used_in = win.used_in;
            cleared = cleared_later;
            source = win.source;
            hold = λ w m k n. absurd (nothing_held w m k n);
            owed = owed_later win.used busy_inside win.used_in (inr (left_later h));
            owed_before = before_inside;
          }

    -- x is held, and behind K
    module _ (behind : tests (leads o i A) x ≡ false) (held : Held s x) where
      at_hold : (x.ran ≡ suc win.used) × (win.opened + win.used ≡ st.time) × ((task_at s x.task).cost ≡ suc win.allowance)
      at_hold = win.hold x inside held behind

      room : win.used < win.allowance
      room = omega (arith, at_hold.0, at_hold.2, f.short x inside waits_x)

      busy_held : win.opened + (suc win.used + served (from_on o i A win.opened) (map g st.jobs)) ≡ st.time + 1
      busy_held = omega (
        arith,
        win.busy,
        served_given s done (st.time + 1) x (from_on o i A win.opened) st.jobs (facts_apart s st checked f) inside,
        cond-false {A = ℕ} (tests (from_on o i A win.opened) x) 1 0 (and_left (tests (leads o i A) x) (leb win.opened x.release) behind),
      )

      held_on : (suc win.used < win.allowance) ⊎ Left s o i A win.opened (map g st.jobs) → Window s o i A later
      held_on left = record {
        opened = win.opened;
        allowance = win.allowance;
        used = suc win.used;
        busy = busy_held;
        used_in = room;
        cleared = cleared_later;
        source = win.source;
        hold = λ w m k n. hold w (held_later w m k);
        owed = owed_later (suc win.used) busy_held room left;
        owed_before = λ q n t lt. omega (arith, at_hold.1, room);
      }
        where
          hold : (w : Work) → w ≡ x_later → (w.ran ≡ suc (suc win.used)) × (win.opened + suc win.used ≡ st.time + 1) × ((task_at s w.task).cost ≡ suc win.allowance)
          hold w e = (omega (arith, ap (λ z. z.ran) e, at_hold.0), omega (arith, at_hold.1), ap (λ z. (task_at s z.task).cost) e ∙ at_hold.2)

      pub window_held : Window s o i A later
      window_held = go (cases_Bool (ends s done x)) (cases_Bool (any leftover (map g st.jobs)))
        where
          go : (ends s done x ≡ true) ⊎ (ends s done x ≡ false) → (any leftover (map g st.jobs) ≡ true) ⊎ (any leftover (map g st.jobs) ≡ false) → Window s o i A later
          go (inr e) r = held_on (inl (omega (arith, at_hold.0, at_hold.2, leb-false (task_at s x.task).cost (x.ran + 1) (or_parts done (leb (task_at s x.task).cost (x.ran + 1)) e).1)))
          go (inl e) (inl h) = held_on (inr (left_later h))
          go (inl e) (inr h) = fresh s o i A later facts_later (none_left h) 0 (inl refl) (λ w m k n. absurd (both_ways w.finished k.1.1 (ap (λ z. z.finished) (held_later w m k) ∙ e)))
