-- Sums over a list of jobs, by tests of their task and release: the cost they ask for, the ticks they ran, their number.
use Rattle.std.proofs.Common.{◌≡◌, ℕ, ◌+◌, ◌<◌, ◌≤◌, Bool, true, false, cond, eqb, ◌⊎◌, List, [], ◌∷◌, map, sym, refl, ap, ◌∙◌, subst, inl, inr, arith}
use Rattle.std.proofs.lemmas.Bool.{cases_Bool, both_ways, cond-true, cond-false, and_parts, and_from, eqb-true, eq-eqb}
use Rattle.table.specs.Rules.{TaskSet, task_at}
use Rattle.theory.specs.Lists.{In}
use Rattle.theory.specs.Machine.{Work, same_work, run_one}

-- a sum over the elements of a list
unfoldable pub total : {X : Type 0} → (X → ℕ) → List X → ℕ
total f [] = 0
total f (x ∷ xs) = f x + total f xs

pub total_mono : {X : Type 0} (f g : X → ℕ) (xs : List X) → ((x : X) → In x xs → f x ≤ g x) → total f xs ≤ total g xs
unfolding total
total_mono f g [] h = omega arith
total_mono f g (x ∷ xs) h = omega (arith, h x (inl refl), total_mono f g xs (λ y m. h y (inr m)))

pub total_cong : {X : Type 0} (f g : X → ℕ) (xs : List X) → ((x : X) → In x xs → f x ≡ g x) → total f xs ≡ total g xs
unfolding total
total_cong f g [] h = refl
total_cong f g (x ∷ xs) h = omega (arith, h x (inl refl), total_cong f g xs (λ y m. h y (inr m)))

pub total_zero : {X : Type 0} (f : X → ℕ) (xs : List X) → ((x : X) → In x xs → f x ≡ 0) → total f xs ≡ 0
unfolding total
total_zero f [] h = refl
total_zero f (x ∷ xs) h = omega (arith, h x (inl refl), total_zero f xs (λ y m. h y (inr m)))

pub total_add : {X : Type 0} (f g : X → ℕ) (xs : List X) → total (λ x. f x + g x) xs ≡ total f xs + total g xs
unfolding total
total_add f g [] = refl
total_add f g (x ∷ xs) = omega (arith, total_add f g xs)

pub total_at : {X : Type 0} (f : X → ℕ) (xs : List X) (x : X) → In x xs → f x ≤ total f xs
unfolding total
total_at f [] x m = absurd m
total_at f (y ∷ ys) x (inl e) = omega (arith, ap f e)
total_at f (y ∷ ys) x (inr m) = omega (arith, total_at f ys x m)

-- below everywhere and strictly somewhere
pub total_strict : {X : Type 0} (f g : X → ℕ) (xs : List X) (x : X) → ((y : X) → In y xs → f y ≤ g y) → In x xs → f x < g x → total f xs < total g xs
unfolding total
total_strict f g [] x h m lt = absurd m
total_strict f g (y ∷ ys) x h (inl e) lt = omega (arith, subst (λ z. f z < g z) e lt, total_mono f g ys (λ z k. h z (inr k)))
total_strict f g (y ∷ ys) x h (inr m) lt = omega (arith, h y (inl refl), total_strict f g ys x (λ z k. h z (inr k)) m lt)

pub total_map : {X Y : Type 0} (f : Y → ℕ) (g : X → Y) (xs : List X) → total f (map g xs) ≡ total (λ x. f (g x)) xs
unfolding total
total_map f g [] = refl
total_map f g (x ∷ xs) = ap (λ n. f (g x) + n) (total_map f g xs)

-- a test of a job by its task and release
abbrev pub Test : Type 0
Test = ℕ → ℕ → Bool

abbrev pub tests : Test → Work → Bool
tests p w = p w.task w.release

-- the cost of the jobs that pass, the ticks that they ran, their number
abbrev pub asked : TaskSet → Test → List Work → ℕ
asked s p ws = total (λ w. cond (tests p w) (task_at s w.task).cost 0) ws

abbrev pub served : Test → List Work → ℕ
served p ws = total (λ w. cond (tests p w) w.ran 0) ws

abbrev pub number : Test → List Work → ℕ
number p ws = total (λ w. cond (tests p w) 1 0) ws

-- no two jobs of the list have the same task and release
abbrev pub Apart : List Work → Type 0
Apart [] = Unit {0}
Apart (w ∷ ws) = ((v : Work) → In v ws → same_work v w ≡ false) × Apart ws

pub same_facts : (v w : Work) → same_work v w ≡ true → (v.task ≡ w.task) × (v.release ≡ w.release)
same_facts v w h = let p = and_parts (eqb v.task w.task) (eqb v.release w.release) h in (eqb-true v.task w.task p.0, eqb-true v.release w.release p.1)

pub same_from : (v w : Work) → v.task ≡ w.task → v.release ≡ w.release → same_work v w ≡ true
same_from v w e f = and_from (eqb v.task w.task) (eqb v.release w.release) (eq-eqb v.task w.task e) (eq-eqb v.release w.release f)

pub same_swap : (v w : Work) → same_work v w ≡ false → same_work w v ≡ false
same_swap v w h = go (cases_Bool (same_work w v))
  where
    go : (same_work w v ≡ true) ⊎ (same_work w v ≡ false) → same_work w v ≡ false
    go (inl e) = let f = same_facts w v e in absurd (both_ways (same_work v w) h (same_from v w (sym f.0) (sym f.1)))
    go (inr e) = e

-- one task and release, one job
pub same_one : (ws : List Work) → Apart ws → (v w : Work) → In v ws → In w ws → same_work v w ≡ true → v ≡ w
same_one [] ap v w m k h = absurd m
same_one (x ∷ xs) far v w (inl e) (inl f) h = e ∙ sym f
same_one (x ∷ xs) far v w (inl e) (inr k) h = absurd (both_ways (same_work v w) (subst (λ z. same_work z w ≡ false) (sym e) (same_swap w x (far.0 w k))) h)
same_one (x ∷ xs) far v w (inr m) (inl f) h = absurd (both_ways (same_work v w) (subst (λ z. same_work v z ≡ false) (sym f) (far.0 v m)) h)
same_one (x ∷ xs) far v w (inr m) (inr k) h = same_one xs far.1 v w m k h

-- the job x gets a tick, the others stay
abbrev pub given : TaskSet → Bool → ℕ → Work → Work → Work
given s done later x v = cond (same_work v x) (run_one s done later v) v

pub given_same : (s : TaskSet) (done : Bool) (later : ℕ) (x v : Work) → same_work v x ≡ true → given s done later x v ≡ run_one s done later v
given_same s done later x v h = cond-true (same_work v x) (run_one s done later v) v h

pub given_other : (s : TaskSet) (done : Bool) (later : ℕ) (x v : Work) → same_work v x ≡ false → given s done later x v ≡ v
given_other s done later x v h = cond-false (same_work v x) (run_one s done later v) v h

pub given_task : (s : TaskSet) (done : Bool) (later : ℕ) (x v : Work) → (given s done later x v).task ≡ v.task
given_task s done later x v = go (cases_Bool (same_work v x))
  where
    go : (same_work v x ≡ true) ⊎ (same_work v x ≡ false) → (given s done later x v).task ≡ v.task
    go (inl e) = ap (λ w. w.task) (given_same s done later x v e)
    go (inr e) = ap (λ w. w.task) (given_other s done later x v e)

pub given_release : (s : TaskSet) (done : Bool) (later : ℕ) (x v : Work) → (given s done later x v).release ≡ v.release
given_release s done later x v = go (cases_Bool (same_work v x))
  where
    go : (same_work v x ≡ true) ⊎ (same_work v x ≡ false) → (given s done later x v).release ≡ v.release
    go (inl e) = ap (λ w. w.release) (given_same s done later x v e)
    go (inr e) = ap (λ w. w.release) (given_other s done later x v e)

-- a tick moves no job's task or release, so it moves no test
pub given_tests : (s : TaskSet) (done : Bool) (later : ℕ) (x v : Work) (p : Test) → tests p (given s done later x v) ≡ tests p v
given_tests s done later x v p = ap (λ z. p z (given s done later x v).release) (given_task s done later x v) ∙ ap (λ z. p v.task z) (given_release s done later x v)

pub asked_given : (s : TaskSet) (done : Bool) (later : ℕ) (x : Work) (p : Test) (ws : List Work) → asked s p (map (given s done later x) ws) ≡ asked s p ws
asked_given s done later x p ws =
    total_map (λ w. cond (tests p w) (task_at s w.task).cost 0) (given s done later x) ws
    ∙ total_cong (λ w. cond (tests p (given s done later x w)) (task_at s (given s done later x w).task).cost 0) (λ w. cond (tests p w) (task_at s w.task).cost 0) ws
    (λ w m. ap (λ b. cond b (task_at s (given s done later x w).task).cost 0) (given_tests s done later x w p) ∙ ap (λ j. cond (tests p w) (task_at s j).cost 0) (given_task s done later x w))

-- a tick serves the job x by one
pub served_given : (s : TaskSet) (done : Bool) (later : ℕ) (x : Work) (p : Test) (ws : List Work) → Apart ws → In x ws → served p (map (given s done later x) ws) ≡ served p ws + cond (tests p x) 1 0
unfolding total
served_given s done later x p ws far m = total_map (λ w. cond (tests p w) w.ran 0) (given s done later x) ws ∙ go ws far m
  where
    f : Work → ℕ
    f w = cond (tests p w) w.ran 0

    kept : (w : Work) → same_work w x ≡ false → f (given s done later x w) ≡ f w
    kept w h = ap f (given_other s done later x w h)

    more : (w : Work) → same_work w x ≡ true → f (given s done later x w) ≡ f w + cond (tests p w) 1 0
    more w h = ap f (given_same s done later x w h) ∙ split (tests p w)
      where
        split : (b : Bool) → cond b (w.ran + 1) 0 ≡ cond b w.ran 0 + cond b 1 0
        split true = refl
        split false = refl

    go : (ys : List Work) → Apart ys → In x ys → total (λ w. f (given s done later x w)) ys ≡ total f ys + cond (tests p x) 1 0
    go [] d k = absurd k
    go (y ∷ ys) d (inl e) = first (total_cong (λ w. f (given s done later x w)) f ys (λ w k. kept w (subst (λ z. same_work w z ≡ false) (sym e) (d.0 w k)))) (more y (same_from y x (ap (λ z. z.task) (sym e)) (ap (λ z. z.release) (sym e)))) (ap {B = ℕ} (λ z. cond (tests p z) 1 0) e)
      where
        first : total (λ w. f (given s done later x w)) ys ≡ total f ys → f (given s done later x y) ≡ f y + cond (tests p y) 1 0 → ◌≡◌ {A = ℕ} (cond (tests p x) 1 0) (cond (tests p y) 1 0) → total (λ w. f (given s done later x w)) (y ∷ ys) ≡ total f (y ∷ ys) + cond (tests p x) 1 0
        first a b c = omega arith
    go (y ∷ ys) d (inr k) = rest (go ys d.1 k) (kept y (same_swap x y (d.0 x k)))
      where
        rest : total (λ w. f (given s done later x w)) ys ≡ total f ys + cond (tests p x) 1 0 → f (given s done later x y) ≡ f y → total (λ w. f (given s done later x w)) (y ∷ ys) ≡ total f (y ∷ ys) + cond (tests p x) 1 0
        rest a b = omega arith

-- conditional summands, one beside the other
pub cond_le : (p q : Bool) (x y : ℕ) → (p ≡ true → (x ≡ 0) ⊎ ((q ≡ true) × (x ≤ y))) → cond p x 0 ≤ cond q y 0
cond_le false q x y h = omega arith
cond_le true q x y h = go (h refl)
  where
    go : (x ≡ 0) ⊎ ((q ≡ true) × (x ≤ y)) → x ≤ cond q y 0
    go (inl e) = omega arith
    go (inr (e, le)) = omega (arith, cond-true q y 0 e)

pub cond_lt : (p q : Bool) (x y : ℕ) → p ≡ true → q ≡ true → x < y → cond p x 0 < cond q y 0
cond_lt p q x y e f lt = omega (arith, cond-true p x 0 e, cond-true q y 0 f)

pub total_more : {X : Type 0} (f : X → ℕ) (x : X) (xs : List X) → total f (x ∷ xs) ≡ f x + total f xs
unfolding total
total_more f x xs = refl
