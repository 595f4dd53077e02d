-- The window of a job K, of task i and released at A (or not released yet): a stretch of time up to now in which the processor
-- only ran K or jobs ahead of it that were released in the stretch, after at most an allowance of one job that could not be displaced.
use Rattle.std.proofs.Common.{◌≡◌, ℕ, suc, ◌+◌, ◌<◌, ◌≤◌, Bool, true, false, cond, not, ◌&&◌, eqb, ltb, leb, ◌⊎◌, List, inl, inr, arith}
use Rattle.std.proofs.lemmas.Bool.{cases_Bool, cond-true, cond-false, and_parts, and_from, leb-true, le-leb, lt-ltb, not_from_false}
use Rattle.table.specs.Rules.{TaskSet, task_at, task_count}
use Rattle.table.specs.declared.kinds.Mode.TheVariants.{NonPreemptive}
use Rattle.policy.specs.Order.{Order}
use Rattle.theory.specs.Lists.{In}
use Rattle.theory.specs.Machine.{Work, State}
use Rattle.theory.proofs.Orders.{leads}
use Rattle.theory.proofs.Works.{Test, tests, asked, served, total_mono, total_strict, total_zero, cond_le, cond_lt}
use Rattle.theory.proofs.MachineFacts.{Facts, On}

-- the job of K itself
abbrev pub key : ℕ → ℕ → Test
key i A j r = eqb j i && eqb r A

-- K or ahead of it, released from `opened` on; within t ticks of it
abbrev pub from_on : Order → ℕ → ℕ → ℕ → Test
from_on o i A opened j r = leads o i A j r && leb opened r

abbrev pub released_within : Order → ℕ → ℕ → ℕ → ℕ → Test
released_within o i A opened t j r = leads o i A j r && (leb opened r && ltb r (opened + t))

-- ahead of K and not K, released from `opened` on and at most t ticks later
abbrev pub ahead_within : Order → ℕ → ℕ → ℕ → ℕ → Test
ahead_within o i A opened t j r = (leads o i A j r && not (key i A j r)) && (leb opened r && leb r (opened + t))

abbrev pub NotFinished : ℕ → ℕ → List Work → Type 0
NotFinished i A ws = (w : Work) → In w ws → tests (key i A) w ≡ true → w.finished ≡ false

-- a job that cannot be displaced
abbrev pub Held : TaskSet → Work → Type 0
Held s w = (s.mode ≡ NonPreemptive) × On w

-- where an allowance comes from: a job that can be held, behind K, released before the window, that had one tick before it
abbrev pub Source : TaskSet → Order → ℕ → ℕ → ℕ → ℕ → Type 0
Source s o i A opened allowance = (allowance ≡ 0) ⊎ ((j : ℕ) × (r : ℕ) × (s.mode ≡ NonPreemptive) × (j < task_count s) × (r < opened) × (leads o i A j r ≡ false) × ((task_at s j).cost ≡ suc allowance))

pub record Window (s : TaskSet) (o : Order) (i A : ℕ) (st : State) : Type 0 where
  pub opened : ℕ
  pub allowance : ℕ
  pub used : ℕ
  -- every tick since it opened went to the allowance or to jobs of the window
  pub busy : opened + (used + served (from_on o i A opened) st.jobs) ≡ st.time
  pub used_in : used ≤ allowance
  -- what was released before is finished
  pub cleared : (w : Work) → In w st.jobs → tests (leads o i A) w ≡ true → w.release < opened → w.finished ≡ true
  pub source : Source s o i A opened allowance
  -- a held job behind K is what the allowance is for, and it alone has run in the window
  pub hold : (w : Work) → In w st.jobs → Held s w → tests (leads o i A) w ≡ false → (w.ran ≡ suc used) × (opened + used ≡ st.time) × ((task_at s w.task).cost ≡ suc allowance)
  -- after every t ticks of the window some of its work was left
  pub owed : (t : ℕ) → 1 ≤ t → opened + t ≤ st.time → t < allowance + asked s (released_within o i A opened t) st.jobs
  -- without preemption, before K began, some work ahead of it was left
  pub owed_before : s.mode ≡ NonPreemptive → NotFinished i A st.jobs → (t : ℕ) → (opened + t) + served (key i A) st.jobs < st.time → t < allowance + asked s (ahead_within o i A opened t) st.jobs

module _ (s : TaskSet) (o : Order) (i A : ℕ) where
  -- where no job of K's front is left, a window opens now
  pub fresh : (st : State) → Facts s st → ((w : Work) → In w st.jobs → tests (leads o i A) w ≡ true → w.finished ≡ true)
      → (allowance : ℕ) → Source s o i A st.time allowance
      → ((w : Work) → In w st.jobs → Held s w → tests (leads o i A) w ≡ false → (w.ran ≡ 1) × ((task_at s w.task).cost ≡ suc allowance))
      → Window s o i A st
  fresh st f all allowance source hold = record {
    opened = st.time;
    allowance = allowance;
    used = 0;
    busy = omega (arith, none);
    used_in = omega arith;
    cleared = λ w m h lt. all w m h;
    source = source;
    hold = λ w m k h. ((hold w m k h).0, omega arith, (hold w m k h).1);
    owed = λ t low le. absurd (omega arith);
    owed_before = λ q n t lt. absurd (omega arith);
  }
    where
      none : served (from_on o i A st.time) st.jobs ≡ 0
      none = total_zero (λ w. cond (tests (from_on o i A st.time) w) w.ran 0) st.jobs (λ w m. go w m (cases_Bool (tests (from_on o i A st.time) w)))
        where
          go : (w : Work) → In w st.jobs → (tests (from_on o i A st.time) w ≡ true) ⊎ (tests (from_on o i A st.time) w ≡ false) → cond (tests (from_on o i A st.time) w) w.ran 0 ≡ 0
          go w m (inl e) = omega (arith, cond-true (tests (from_on o i A st.time) w) w.ran 0 e, f.past w m, leb-true st.time w.release (and_parts (tests (leads o i A) w) (leb st.time w.release) e).1)
          go w m (inr e) = cond-false (tests (from_on o i A st.time) w) w.ran 0 e

  -- a job of K's front that is not finished
  abbrev pub Left : ℕ → List Work → Type 0
  Left opened ws = (w : Work) × In w ws × (tests (leads o i A) w ≡ true) × (w.finished ≡ false) × (opened ≤ w.release)

  -- the newest tick of a window leaves work, if the allowance is not used up or a job of it is left
  pub owed_last : (st : State) → Facts s st → (opened used allowance t : ℕ) → ((w : Work) → In w st.jobs → w.release < st.time) → opened + (used + served (from_on o i A opened) st.jobs) ≡ st.time → used ≤ allowance
      → (used < allowance) ⊎ Left opened st.jobs → opened + t ≡ st.time → t < allowance + asked s (released_within o i A opened t) st.jobs
  owed_last st f opened used allowance t old busy used_in left e = go left
    where
      p : Work → Bool
      p w = tests (from_on o i A opened) w

      q : Work → Bool
      q w = tests (released_within o i A opened t) w

      pass : (w : Work) → In w st.jobs → leads o i A w.task w.release ≡ true → leb opened w.release ≡ true → q w ≡ true
      pass w m a b = and_from (leads o i A w.task w.release) (leb opened w.release && ltb w.release (opened + t)) a (and_from (leb opened w.release) (ltb w.release (opened + t)) b (lt-ltb w.release (opened + t) (omega (arith, old w m))))

      each : (w : Work) → In w st.jobs → cond (p w) w.ran 0 ≤ cond (q w) (task_at s w.task).cost 0
      each w m = cond_le (p w) (q w) w.ran (task_at s w.task).cost (λ h. let k = and_parts (leads o i A w.task w.release) (leb opened w.release) h in inr (pass w m k.0 k.1, f.within w m))

      go : (used < allowance) ⊎ Left opened st.jobs → t < allowance + asked s (released_within o i A opened t) st.jobs
      go (inl lt) = omega (arith, total_mono (λ w. cond (p w) w.ran 0) (λ w. cond (q w) (task_at s w.task).cost 0) st.jobs each)
      go (inr (w, m, h, n, le)) =
          omega (
            arith,
            total_strict (λ w. cond (p w) w.ran 0) (λ w. cond (q w) (task_at s w.task).cost 0) st.jobs w each m
                (cond_lt (p w) (q w) w.ran (task_at s w.task).cost (and_from (leads o i A w.task w.release) (leb opened w.release) h (le-leb opened w.release le)) (pass w m h (le-leb opened w.release le)) (f.short w m n)),
          )

  -- a job x ahead of K is left and K has not begun: work ahead of K is left
  pub owed_first : (st : State) → Facts s st → (opened used allowance t : ℕ) → opened + (used + served (from_on o i A opened) st.jobs) ≡ st.time → used ≤ allowance
      → (x : Work) → In x st.jobs → tests (leads o i A) x ≡ true → x.finished ≡ false → opened ≤ x.release → tests (key i A) x ≡ false
      → ((w : Work) → In w st.jobs → tests (key i A) w ≡ true → w.ran ≡ 0)
      → opened + t ≡ st.time → t < allowance + asked s (ahead_within o i A opened t) st.jobs
  owed_first st f opened used allowance t busy used_in x inside lead_x left le other idle e =
      omega (
        arith,
        total_strict (λ w. cond (p w) w.ran 0) (λ w. cond (q w) (task_at s w.task).cost 0) st.jobs x each inside
            (cond_lt (p x) (q x) x.ran (task_at s x.task).cost (and_from (leads o i A x.task x.release) (leb opened x.release) lead_x (le-leb opened x.release le)) (pass x inside lead_x (le-leb opened x.release le) other) (f.short x inside left)),
      )
    where
      p : Work → Bool
      p w = tests (from_on o i A opened) w

      q : Work → Bool
      q w = tests (ahead_within o i A opened t) w

      pass : (w : Work) → In w st.jobs → leads o i A w.task w.release ≡ true → leb opened w.release ≡ true → tests (key i A) w ≡ false → q w ≡ true
      pass w m a b k = and_from (leads o i A w.task w.release && not (tests (key i A) w)) (leb opened w.release && leb w.release (opened + t))
          (and_from (leads o i A w.task w.release) (not (tests (key i A) w)) a (not_from_false (tests (key i A) w) k))
          (and_from (leb opened w.release) (leb w.release (opened + t)) b (le-leb w.release (opened + t) (omega (arith, f.past w m))))

      each : (w : Work) → In w st.jobs → cond (p w) w.ran 0 ≤ cond (q w) (task_at s w.task).cost 0
      each w m = cond_le (p w) (q w) w.ran (task_at s w.task).cost (λ h. two (and_parts (leads o i A w.task w.release) (leb opened w.release) h) (cases_Bool (tests (key i A) w)))
        where
          two : (leads o i A w.task w.release ≡ true) × (leb opened w.release ≡ true) → (tests (key i A) w ≡ true) ⊎ (tests (key i A) w ≡ false) → (w.ran ≡ 0) ⊎ ((q w ≡ true) × (w.ran ≤ (task_at s w.task).cost))
          two h (inl k) = inl (idle w m k)
          two h (inr k) = inr (pass w m h.0 h.1 k, f.within w m)
