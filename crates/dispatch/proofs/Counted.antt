-- The counts that the machine looks up are those of the summary.
use Rattle.std.proofs.Common.{◌≡◌, ℕ, ◌+◌, max, Bool, true, false, cond, not, ltb, List, [], ◌∷◌, length, refl, ap, arith, length-append}
use Rattle.table.specs.Rules.{TaskSet, task_at}
use Rattle.theory.specs.Lists.{those, how_many, greatest}
use Rattle.theory.specs.Machine.{Work, State, of_task, waits, counted}
use Rattle.dispatch.specs.Summaries.{Summary, newer, summed, pending, counts_of}

module _ (s : TaskSet) (j : ℕ) where
  -- the jobs ms of the task, the finished ones os among them, n waiting ones, and their summary
  record Tally (ms os : List Work) (n : ℕ) (u : Summary) : Type 0 where
    accepted : how_many (λ w. true) ms ≡ u.finished + length u.waiting
    finished : how_many (λ w. true) os ≡ u.finished
    waiting : n ≡ length u.waiting
    missed : how_many (λ w. ltb (task_at s j).deadline w.response) os ≡ u.missed
    longest : greatest (λ w. w.response) os ≡ u.longest

  tally_more : (w : Work) (ms os : List Work) (n : ℕ) (u : Summary) (b : Bool) → Tally ms os n u → Tally (w ∷ ms) (cond b (w ∷ os) os) (cond (not b) 1 0 + n) (newer (task_at s j) b w.release w.ran w.response u)
  unfolding how_many greatest
  tally_more w ms os n u true h = record {
    accepted = omega (arith, h.accepted);
    finished = omega (arith, h.finished);
    waiting = omega (arith, h.waiting);
    missed = ap (λ (k : ℕ). cond (ltb (task_at s j).deadline w.response) 1 0 + k) h.missed;
    longest = ap (λ k. max w.response k) h.longest;
  }
  tally_more w ms os n u false h = record {
    accepted = omega (arith, h.accepted, length-append u.waiting (pending w.release w.ran ∷ []));
    finished = h.finished;
    waiting = omega (arith, h.waiting, length-append u.waiting (pending w.release w.ran ∷ []));
    missed = h.missed;
    longest = h.longest;
  }

  tally : (ws : List Work) → Tally (those (of_task j) ws) (those (λ w. w.finished) (those (of_task j) ws)) (how_many waits (those (of_task j) ws)) (summed s j ws)
  unfolding how_many greatest those summed
  tally [] = record { accepted = refl; finished = refl; waiting = refl; missed = refl; longest = refl }
  tally (w ∷ ws) = go (of_task j w) (tally ws)
    where
      ms : List Work
      ms = those (of_task j) ws

      go : (a : Bool) → Tally ms (those (λ w. w.finished) ms) (how_many waits ms) (summed s j ws)
          → Tally (cond a (w ∷ ms) ms) (those (λ w. w.finished) (cond a (w ∷ ms) ms)) (how_many waits (cond a (w ∷ ms) ms)) (cond a (newer (task_at s j) w.finished w.release w.ran w.response (summed s j ws)) (summed s j ws))
      go true h = tally_more w ms (those (λ w. w.finished) ms) (how_many waits ms) (summed s j ws) w.finished h
      go false h = h

  pub counted_is : (st : State) → counted s st j ≡ counts_of (summed s j st.jobs)
  counted_is st = let h = tally st.jobs in λ k. record { accepted = h.accepted k; finished = h.finished k; waiting = h.waiting k; missed = h.missed k; longest = h.longest k }
