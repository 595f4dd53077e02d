-- Reading the tasks of a file, along a loop that stores them.
use Rattle.std.proofs.Common.{◌≡◌, ℕ, suc, ◌+◌, ◌-◌, ◌<◌, List, [], ◌∷◌, ◌++◌, map, length, take, set, Ok, Err, sym, ap, ◌∙◌, arith}
use Rattle.std.proofs.lemmas.List.{take_more_set, map_push}
use Rattle.table.specs.Content.{sporadic}
use Rattle.table.specs.Sporadic.{Sporadic}
use Rattle.table.specs.declared.refusal.Refusal.{Refusal}
use Rattle.table.specs.declared.task.Task.{Task}
use Rattle.tablefile.specs.Fields.{Read, ◌then◌}
use Rattle.tablefile.specs.Format.{task_at, tasks_at}

-- i of n tasks are stored, and the next stands at p
module _ (s : List ℕ) (n i p : ℕ) (room : List Task) {all : Read (List Sporadic)} (lt : i < n) (so : all ≡ tasks_at s n (n - i) (map sporadic (take i room)) p) where
  next : all ≡ (task_at s p n (map sporadic (take i room)) then λ t. tasks_at s n (n - (i + 1)) (map sporadic (take i room) ++ t ∷ []) (p + 10 + length t.name))
  next = let back : n - i ≡ suc (n - (i + 1)) = omega arith in so ∙ ap (λ k. tasks_at s n k (map sporadic (take i room)) p) back

  pub stored_more : (task : Task) (t : Sporadic) (q : ℕ) → i < length room → task_at s p n (map sporadic (take i room)) ≡ Ok t → sporadic task ≡ t → q ≡ p + 10 + length t.name → all ≡ tasks_at s n (n - (i + 1)) (map sporadic (take (i + 1) (set room i task))) q
  stored_more task t q inside read same behind =
      let front : map sporadic (take i room) ++ t ∷ [] ≡ map sporadic (take (i + 1) (set room i task)) =
      sym (ap (map sporadic) (take_more_set room i task inside) ∙ map_push sporadic (take i room) task ∙ ap (λ x. map sporadic (take i room) ++ x ∷ []) same)
      in
      next
      ∙ ap (λ r. r then λ t. tasks_at s n (n - (i + 1)) (map sporadic (take i room) ++ t ∷ []) (p + 10 + length t.name)) read
      ∙ (λ j. tasks_at s n (n - (i + 1)) (front j) (sym behind j))

  pub refused_here : (why : Refusal) → task_at s p n (map sporadic (take i room)) ≡ Err why → all ≡ Err why
  refused_here why bad = next ∙ ap (λ r. r then λ t. tasks_at s n (n - (i + 1)) (map sporadic (take i room) ++ t ∷ []) (p + 10 + length t.name)) bad
