-- The waiting jobs of a line, as its array of releases has them.
use Rattle.std.proofs.Common.{◌≡◌, ℕ, zero, suc, ◌+◌, ◌-◌, ◌<◌, ◌≤◌, List, [], ◌∷◌, ◌++◌, map, length, get_or, take, set, refl, ap, ◌∙◌, arith, length-take-le}
use lib.ListN.{length-map}
use lib.Seq.{take-append-le}
use Rattle.std.proofs.lemmas.List.{take_more_set}
use Rattle.theory.specs.Lists.{In}
use Rattle.theory.proofs.Search.{from_map}
use Rattle.dispatch.specs.Lines.{queue, line_summary}
use Rattle.dispatch.specs.Summaries.{Pending, pending}
use Rattle.dispatch.specs.declared.line.Line.{Line}

queue_long : (ran : ℕ) (xs : List ℕ) → length (queue ran xs) ≡ length xs
queue_long ran [] = refl
queue_long ran (x ∷ xs) = ap suc (length-map xs (λ q. pending q 0))

pub line_long : (l : Line) → length (line_summary l).waiting ≡ l.len
line_long l = queue_long l.ran (take l.len l.releases) ∙ length-take-le l.len l.releases (omega (arith, l.few, l.room))

-- a map with one more at the end
pub map_snoc : {X Y : Type 0} (f : X → Y) (xs : List X) (y : X) → map f (xs ++ (y ∷ [])) ≡ map f xs ++ (f y ∷ [])
map_snoc f [] y = refl
map_snoc f (x ∷ xs) y = ap (λ zs. f x ∷ zs) (map_snoc f xs y)

queue_snoc : (ran : ℕ) (xs : List ℕ) (t : ℕ) → (length xs ≡ 0 → ran ≡ 0) → queue ran (xs ++ (t ∷ [])) ≡ queue ran xs ++ (pending t 0 ∷ [])
queue_snoc ran [] t h = ap (λ n. pending t n ∷ []) (h refl)
queue_snoc ran (x ∷ xs) t h = ap (λ zs. pending x ran ∷ zs) (map_snoc (λ q. pending q 0) xs t)

-- a release at the end
pub queue_push : (l : Line) (t : ℕ) → l.len < 8 → queue l.ran (take (l.len + 1) (set l.releases l.len t)) ≡ queue l.ran (take l.len l.releases) ++ (pending t 0 ∷ [])
queue_push l t h = ap (queue l.ran) (take_more_set l.releases l.len t (omega (arith, l.room))) ∙ queue_snoc l.ran (take l.len l.releases) t (λ e. l.fresh (omega (arith, length-take-le l.len l.releases (omega (arith, l.few, l.room)))))

queue_zero : (xs : List ℕ) → queue 0 xs ≡ map (λ q. pending q 0) xs
queue_zero [] = refl
queue_zero (x ∷ xs) = refl

seven : (k : ℕ) (ys : List ℕ) → length ys ≡ 7 → k ≤ 7 → take k (get_or ys 0 0 ∷ get_or ys 1 0 ∷ get_or ys 2 0 ∷ get_or ys 3 0 ∷ get_or ys 4 0 ∷ get_or ys 5 0 ∷ get_or ys 6 0 ∷ 0 ∷ []) ≡ take k ys
seven k [] e h = absurd (omega arith)
seven k (a ∷ []) e h = absurd (omega arith)
seven k (a ∷ b ∷ []) e h = absurd (omega arith)
seven k (a ∷ b ∷ c ∷ []) e h = absurd (omega arith)
seven k (a ∷ b ∷ c ∷ d ∷ []) e h = absurd (omega arith)
seven k (a ∷ b ∷ c ∷ d ∷ i ∷ []) e h = absurd (omega arith)
seven k (a ∷ b ∷ c ∷ d ∷ i ∷ j ∷ []) e h = absurd (omega arith)
seven k (a ∷ b ∷ c ∷ d ∷ i ∷ j ∷ l ∷ []) e h = take-append-le k (a ∷ b ∷ c ∷ d ∷ i ∷ j ∷ l ∷ []) (0 ∷ []) h
seven k (a ∷ b ∷ c ∷ d ∷ i ∷ j ∷ l ∷ m ∷ ms) e h = absurd (omega arith)

-- the first job leaves
pub queue_shift : (ran len : ℕ) (xs : List ℕ) (p : Pending) (ps : List Pending) → length xs ≡ 8 → len ≤ 8 → queue ran (take len xs) ≡ p ∷ ps
    → (queue 0 (take (len - 1) (get_or xs 1 0 ∷ get_or xs 2 0 ∷ get_or xs 3 0 ∷ get_or xs 4 0 ∷ get_or xs 5 0 ∷ get_or xs 6 0 ∷ get_or xs 7 0 ∷ 0 ∷ [])) ≡ ps) × (get_or xs 0 0 ≡ p.release)
queue_shift ran zero xs p ps e h q = let z : ◌≡◌ {A = ℕ} 0 1 = cc in absurd (omega arith)
queue_shift ran (suc k) [] p ps e h q = absurd (omega arith)
queue_shift ran (suc k) (x ∷ ys) p ps e h q =
    let r : map (λ q. pending q 0) (take k ys) ≡ ps = cc in
    let f : pending x ran ≡ p = cc in
    let one : suc k - 1 ≡ k = omega arith in
    let long : length ys ≡ 7 = omega arith in
    (ap (λ n. queue 0 (take n (get_or ys 0 0 ∷ get_or ys 1 0 ∷ get_or ys 2 0 ∷ get_or ys 3 0 ∷ get_or ys 4 0 ∷ get_or ys 5 0 ∷ get_or ys 6 0 ∷ 0 ∷ []))) one ∙ ap (queue 0) (seven k ys long (omega arith)) ∙ queue_zero (take k ys) ∙ r, ap (λ (z : Pending). z.release) f)

-- the first job stays, with one tick more
pub queue_on : (ran : ℕ) (xs : List ℕ) (p : Pending) (ps : List Pending) → queue ran xs ≡ p ∷ ps → queue (ran + 1) xs ≡ pending p.release (p.ran + 1) ∷ ps
queue_on ran [] p ps q = let z : ◌≡◌ {A = ℕ} 0 1 = cc in absurd (omega arith)
queue_on ran (x ∷ xs) p ps q =
    let r : map (λ q. pending q 0) xs ≡ ps = cc in
    let f : pending x ran ≡ p = cc in
    λ k. pending (f k).release ((f k).ran + 1) ∷ r k

-- only the first of the waiting jobs has run
pub queue_plain : (ran : ℕ) (xs : List ℕ) (p : Pending) (ps : List Pending) → queue ran xs ≡ p ∷ ps → (q : Pending) → In q ps → q.ran ≡ 0
queue_plain ran [] p ps e q m = let z : ◌≡◌ {A = ℕ} 0 1 = cc in absurd (omega arith)
queue_plain ran (x ∷ xs) p ps e q m =
    let r : map (λ q. pending q 0) xs ≡ ps = cc in
    go (from_map (λ q. pending q 0) xs q (rw r m))
  where
    go : (y : ℕ) × In y xs × (q ≡ pending y 0) → q.ran ≡ 0
    go (y, k, f) = ap (λ (z : Pending). z.ran) f
