-- Filling a list, one element after the other or by `from_fn`, and what a table finds.
use Rattle.std.proofs.Common.{◌≡◌, ℕ, zero, suc, Bool, true, false, eqb, refl, ◌+◌, ◌-◌, ◌<◌, ◌≤◌, List, length, get_or, take, drop, set, Some, sym, ap, ◌∙◌, subst, arith, get_or-set_other, get_or-set_same, get_or-take, length-take-le, drop-drop, drop-set-lt, below_more}
use Rattle.std.specs.Fn.{Called, Mut}
use Rattle.std.specs.Array.{IsFromFnResultFrom}
use Rattle.std.proofs.lemmas.Bool.Decides.{nat_tests}
use Rattle.table.specs.Content.{sporadic}
use Rattle.table.specs.Model.{content, Found}
use Rattle.table.specs.Rules.{task_count}
use Rattle.table.proofs.Tables.{table_checked}
use Rattle.table.proofs.Ranges.{Ranges, count_ranges, task_ranges}
use Rattle.table.specs.declared.task.Task.{Task}
use Rattle.table.specs.declared.checked.Table.{Table}

-- what holds of the elements below j, and of the one now written at j, holds of those below j + 1; d is the default that reads have
pub filled_more : {X : Type 0} (d : X) (P : ℕ → X → Type 0) (xs : List X) (j : ℕ) (x : X) → j < length xs → ((k : ℕ) → k < j → P k (get_or xs k d)) → P j x → (k : ℕ) → k < j + 1 → P k (get_or (set xs j x) k d)
filled_more d P xs j x h before here =
    below_more (λ k. P k (get_or (set xs j x) k d)) j
    (λ k below. subst (P k) (sym (get_or-set_other xs j k x d (omega arith))) (before k below))
    (subst (P j) (sym (get_or-set_same xs j x d h)) here)

-- what stands behind a write stays
pub rest_more : {X : Type 0} (xs before : List X) (j : ℕ) (x : X) → drop j xs ≡ drop j before → drop (j + 1) (set xs j x) ≡ drop (j + 1) before
rest_more xs before j x same = drop-set-lt (j + 1) xs j x (omega arith) ∙ sym (drop-drop 1 j xs) ∙ ap (drop 1) same ∙ drop-drop 1 j before

-- a table's tasks have room among 24
pub few_tasks : (t : Table) → task_count (content t) ≤ 24
few_tasks t = (count_ranges (content t) (table_checked t)).1

-- a task that a table has found is in range
pub found_ranges : (t : Table) (j : ℕ) (task : Task) → Found (content t) j (Some task) → Ranges (task_count (content t)) (sporadic task)
found_ranges t j task found = subst (Ranges (task_count (content t))) (sym found.1) (task_ranges (content t) (table_checked t) j found.0)

-- where no call changes the closure, what each call gives holds of each element that `from_fn` made
pub made_by : {F B : Type 0} (g : Mut F (ℕ × Unit {0}) B) (P : ℕ → B → Type 0) (d : B) (f : F) (ys : List B) → ((i : ℕ) (y : B) (q : F) → Called g f (i, tt) y q → (q ≡ f) × P i y) → (n i : ℕ) → IsFromFnResultFrom g f ys i n → (j : ℕ) → i ≤ j → j < i + n → P j (get_or ys j d)
made_by g P d f ys each zero i made j low high = absurd (omega arith)
made_by g P d f ys each (suc n) i (q, y, at, call, rest) j low high = go (eqb i j) refl (λ apart. made_by g P d f ys each n (i + 1) (subst (λ s. IsFromFnResultFrom g s ys (i + 1) n) (each i y q call).0 rest) j apart (omega arith))
  where
    go : (b : Bool) → eqb i j ≡ b → (i + 1 ≤ j → P j (get_or ys j d)) → P j (get_or ys j d)
    go true e later =
        let same : i ≡ j = grind (arith, nat_tests) in
        subst (λ k. P k (get_or ys k d)) same (subst (P i) (sym (at.1 d)) (each i y q call).1)
    go false e later =
        let apart : i + 1 ≤ j = grind (arith, nat_tests) in
        later apart

-- the first n elements, as a part up to n is written
pub front_long : {X : Type 0} (xs : List X) (n : ℕ) → n ≤ length xs → length (take (n - 0) xs) ≡ n
front_long xs n few = length-take-le (n - 0) xs (omega arith) ∙ omega arith

pub front_at : {X : Type 0} (xs : List X) (n j : ℕ) (d : X) → j < n → get_or (take (n - 0) xs) j d ≡ get_or xs j d
front_at xs n j d h = get_or-take (n - 0) xs j d (omega arith)
