-- The first of a line is the oldest waiting job of its task.
use Rattle.std.proofs.Common.{◌≡◌, ℕ, Bool, true, false, cond, not, List, [], ◌∷◌, ◌++◌, Some, Ok, Err, Option, Result, sym, refl, ap, ◌∙◌}
use Rattle.table.specs.Model.{content}
use Rattle.table.specs.Rules.{TaskSet, task_at}
use Rattle.table.specs.declared.refusal.Refusal.{Refusal}
use Rattle.policy.specs.Order.{Order}
use Rattle.theory.specs.Lists.{those}
use Rattle.theory.specs.Machine.{Work, of_task, waits, or_else}
use Rattle.dispatch.specs.Leading.{first_release}
use Rattle.dispatch.specs.Lines.{board}
use Rattle.dispatch.specs.Oldest.{last_release, FirstOf, Oldest}
use Rattle.dispatch.specs.Summaries.{Pending, summed, newer}
use Rattle.dispatch.specs.declared.station.Station.{Station}

-- one more behind
first_behind : (ps : List Pending) (p : Pending) → first_release (ps ++ (p ∷ [])) ≡ or_else (first_release ps) (Some p.release)
first_behind [] p = refl
first_behind (q ∷ ps) p = refl

first_is : (s : TaskSet) (j : ℕ) (ws : List Work) → first_release (summed s j ws).waiting ≡ last_release (those (of_task j) (those waits ws))
unfolding summed those last_release
first_is s j [] = refl
first_is s j (w ∷ ws) = go (of_task j w) refl w.finished (first_is s j ws)
  where
    go : (mine : Bool) → of_task j w ≡ mine → (over : Bool) → first_release (summed s j ws).waiting ≡ last_release (those (of_task j) (those waits ws))
        → first_release (cond mine (newer (task_at s j) over w.release w.ran w.response (summed s j ws)) (summed s j ws)).waiting ≡ last_release (those (of_task j) (cond (not over) (w ∷ those waits ws) (those waits ws)))
    go true e true h = h
    go true e false h = first_behind (summed s j ws).waiting _ ∙ ap (λ q. or_else q (Some w.release)) h ∙ sym (ap (λ b. last_release (cond b (w ∷ those (of_task j) (those waits ws)) (those (of_task j) (those waits ws)))) e)
    go false e true h = h
    go false e false h = h ∙ sym (ap (λ b. last_release (cond b (w ∷ those (of_task j) (those waits ws)) (those (of_task j) (those waits ws)))) e)

pub oldest_of : (o : Order) (d : Station) (j : ℕ) (got : Result (Option ℕ) Refusal) → FirstOf (content d.table) (board d.lines) j got → Oldest o d j got
oldest_of o d j (Ok got) (known, is) = (known, λ calls stands. is ∙ ap (λ u. first_release u.waiting) (stands.lines j known) ∙ first_is (content d.table) j _)
oldest_of o d j (Err e) refused = refused
