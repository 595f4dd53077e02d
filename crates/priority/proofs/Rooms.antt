-- Tasks with exchanged ranks, in the front of a room for 24.
use Rattle.std.proofs.Common.{◌≡◌, ℕ, ◌-◌, ◌<◌, ◌≤◌, List, ◌++◌, map, length, get_or, take, Some, None, Option, IsSome, sym, refl, ap, ◌∙◌, arith}
use lib.ListN.{length-map}
use Rattle.std.proofs.lemmas.Simd.{map-map}
use Rattle.std.proofs.lemmas.List.{ext_get_or, get_or-map, get_or-take, get_or_append_left, length-take-le}
use Rattle.table.specs.Content.{sporadic}
use Rattle.table.specs.Model.{Built}
use Rattle.table.specs.Rules.{TaskSet, Checked, task_count}
use Rattle.table.specs.declared.checked.Table.{Table}
use Rattle.table.specs.declared.kinds.Mode.{Mode}
use Rattle.table.specs.declared.kinds.PolicyCode.TheVariants.{Fixed}
use Rattle.table.specs.declared.task.Task.{Task}
use Rattle.priority.specs.Exchange.{exchange, with_exchanged}

pub all_exchanged : (x y : ℕ) (d : Task) (tasks rest room : List Task) → length room ≡ 24 → length tasks ≤ 24
    → ((k : ℕ) → k < 24 → sporadic (get_or room k d) ≡ exchange x y (sporadic (get_or (tasks ++ rest) k d)))
    → map sporadic (take (length tasks) room) ≡ map (exchange x y) (map sporadic tasks)
all_exchanged x y d tasks rest room long few each = ext_get_or (sporadic d) (map sporadic (take n room)) (map (exchange x y) (map sporadic tasks)) (omega (arith, front, whole)) same
  where
    n : ℕ
    n = length tasks

    front : length (map sporadic (take n room)) ≡ n
    front = length-map (take n room) sporadic ∙ length-take-le n room (omega (arith, long, few))

    whole : length (map (exchange x y) (map sporadic tasks)) ≡ n
    whole = length-map (map sporadic tasks) (exchange x y) ∙ length-map tasks sporadic

    same : (i : ℕ) → i < length (map sporadic (take n room)) → get_or (map sporadic (take n room)) i (sporadic d) ≡ get_or (map (exchange x y) (map sporadic tasks)) i (sporadic d)
    same i h =
        let inside : i < n = omega (arith, h, front) in
        let there : i < length (take n room) = omega (arith, h, length-map (take n room) sporadic) in
        get_or-map sporadic (take n room) i d (sporadic d) there
        ∙ ap sporadic (get_or-take n room i d inside)
        ∙ each i (omega (arith, inside, few))
        ∙ ap (λ z. exchange x y (sporadic z)) (get_or_append_left tasks rest d i inside)
        ∙ sym (get_or-map (λ z. exchange x y (sporadic z)) tasks i d (sporadic d) inside)
        ∙ ap (λ zs. get_or zs i (sporadic d)) (sym (map-map (exchange x y) sporadic tasks))

-- the slice of a table's tasks has as many as the table
pub slice_long : (s : TaskSet) (tasks : List Task) → map sporadic tasks ≡ s.tasks → length tasks ≡ task_count s
slice_long s tasks is = sym (length-map tasks sporadic) ∙ ap length is

-- what the table is made of
pub made_of : (s : TaskSet) (x y n : ℕ) (mode : Mode) (room tasks : List Task) → mode ≡ s.mode → n ≡ task_count s → map sporadic tasks ≡ s.tasks → map sporadic (take (length tasks) room) ≡ map (exchange x y) (map sporadic tasks) → ◌≡◌ {A = TaskSet} (record { policy = Fixed; mode = mode; band = 0; tasks = map sporadic (take (n - 0) room) }) (with_exchanged x y s)
made_of s x y n mode room tasks same count is front k = record { policy = Fixed; mode = same k; band = 0; tasks = all k }
  where
    long : n - 0 ≡ length tasks
    long = omega (arith, count, slice_long s tasks is)

    all : map sporadic (take (n - 0) room) ≡ map (exchange x y) s.tasks
    all = ap (λ m. map sporadic (take m room)) long ∙ front ∙ ap (map (exchange x y)) is

-- parts that follow the rules make a table
pub built_some : (s : TaskSet) (made : Option Table) → Built s made → Checked s → IsSome made
built_some s None broken checked = sym broken ∙ checked
built_some s (Some t) built checked = refl
