-- Under fixed levels a response depends on which tasks are ahead and which behind alone, and fewer tasks ahead never lengthen it.
use Rattle.std.proofs.Common.{◌≡◌, ℕ, ◌+◌, ◌-◌, ◌/◌, ◌<◌, ◌≤◌, max, sym, ap, ◌∙◌, subst, add-mul, le_antisymm, arith}
use Rattle.table.specs.Rules.{TaskSet, Checked, task_at, task_count}
use Rattle.table.specs.declared.kinds.Mode.{Mode}
use Rattle.table.specs.declared.kinds.Mode.TheVariants.{NonPreemptive, Preemptive}
use Rattle.table.proofs.Ranges.{task_ranges}
use Rattle.theory.specs.LeastSolution.{LeastSolution}
use Rattle.theory.specs.Response.{until_finish, until_start, ResponseIn, ResponseAt}
use Rattle.theory.specs.Worst.{Worst}
use Rattle.theory.proofs.Solutions.{solution}
use Rattle.priority.specs.Ordering.{level_order}
use Rattle.priority.proofs.Pointwise.{Alike, alike_back}
use Rattle.priority.proofs.Demand.{Fewer, Alone, finish_less, start_less, finish_grows, start_grows}

-- a least solution does not exceed a bound that covers its own work
least_below : (low : ℕ) (W : ℕ → ℕ) (F c : ℕ) → ((x y : ℕ) → x ≤ y → W x ≤ W y) → low ≤ W low → low ≤ c → W c ≤ c → LeastSolution low W F → F ≤ c
least_below low W F c mono first from covers sol = let u = solution low W c mono first from covers in omega (arith, sol.least u.0 u.1.from u.1.solves, u.2)

-- fewer tasks ahead never lengthen a response
module _ (s t : TaskSet) (f g : ℕ → ℕ) (i a : ℕ) (alike : Alike s t) (fewer : Fewer (task_count s) f g i) (alone : Alone (task_count s) g i) (checked : Checked s) (here : i < task_count s) where
  pub shorter : (r q : ℕ) → ResponseAt s (level_order f) i a r → ResponseAt t (level_order g) i a q → r ≤ q
  shorter r q x y = go s.mode x (subst (λ m. ResponseIn m t (level_order g) i a q) (sym alike.mode) y)
    where
      busy : 1 ≤ until_finish s (level_order f) i a 1
      busy = omega (arith, (task_ranges s checked i here).cost_low, add-mul 1 (a / (task_at s i).period) (task_at s i).cost)

      go : (m : Mode) → ResponseIn m s (level_order f) i a r → ResponseIn m t (level_order g) i a q → r ≤ q
      go Preemptive (F, sol, e) (H, sol₂, e₂) = omega (
        arith,
        alike.cost i,
        least_below 1 (until_finish s (level_order f) i a) F H (finish_grows s f i a) busy sol₂.from (omega (arith, finish_less s t f g i a alike fewer H H (omega arith), sol₂.solves)) sol,
      )
      go NonPreemptive (G, sol, e) (H, sol₂, e₂) = omega (
        arith,
        alike.cost i,
        least_below 0 (until_start s (level_order f) i a) G H (start_grows s f i a) (omega arith) (omega arith) (omega (arith, start_less s t f g i a alike fewer alone H, sol₂.solves)) sol,
      )

-- task i has the same tasks ahead and the same behind at both levels
pub record SameSides (n : ℕ) (f g : ℕ → ℕ) (i : ℕ) : Type 0 where
  pub onward : Fewer n f g i
  pub back : Fewer n g f i
  pub alone_f : Alone n f i
  pub alone_g : Alone n g i

pub sides_back : (n : ℕ) (f g : ℕ → ℕ) (i : ℕ) → SameSides n f g i → SameSides n g f i
sides_back n f g i s = record { onward = s.back; back = s.onward; alone_f = s.alone_g; alone_g = s.alone_f }

pub sides_count : (n m : ℕ) (f g : ℕ → ℕ) (i : ℕ) → n ≡ m → SameSides n f g i → SameSides m f g i
sides_count n m f g i e s = subst (λ k. SameSides k f g i) e s

pub same_response : (s t : TaskSet) (f g : ℕ → ℕ) (i : ℕ) → Alike s t → SameSides (task_count s) f g i → (a r : ℕ) → ResponseAt s (level_order f) i a r → ResponseAt t (level_order g) i a r
same_response s t f g i alike sides a r x = subst (λ m. ResponseIn m t (level_order g) i a r) alike.mode (go s.mode x)
  where
    there : SameSides (task_count t) f g i
    there = sides_count (task_count s) (task_count t) f g i alike.count sides

    finish : until_finish s (level_order f) i a ≡ until_finish t (level_order g) i a
    finish k x = le_antisymm (finish_less s t f g i a alike sides.onward x x (omega arith)) (finish_less t s g f i a (alike_back s t alike) there.back x x (omega arith)) k

    start : until_start s (level_order f) i a ≡ until_start t (level_order g) i a
    start k x = le_antisymm (start_less s t f g i a alike sides.onward sides.alone_g x) (start_less t s g f i a (alike_back s t alike) there.back there.alone_f x) k

    go : (m : Mode) → ResponseIn m s (level_order f) i a r → ResponseIn m t (level_order g) i a r
    go Preemptive (F, sol, e) = (F, subst (λ W. LeastSolution 1 W F) finish sol, e ∙ ap (λ C. max C (F - a)) (alike.cost i))
    go NonPreemptive (G, sol, e) = (G, subst (λ W. LeastSolution 0 W G) start sol, e ∙ ap (λ C. max C (G + C - a)) (alike.cost i))

pub same_worst : (s t : TaskSet) (f g : ℕ → ℕ) (i : ℕ) → Alike s t → SameSides (task_count s) f g i → (L r a : ℕ) → Worst s (level_order f) L i r a → Worst t (level_order g) L i r a
same_worst s t f g i alike sides L r a w = record {
  inside = w.inside;
  given = same_response s t f g i alike sides a r w.given;
  longest = λ b q lt h. w.longest b q lt (back b q h);
  least = λ b lt h. w.least b lt (back b r h);
}
  where
    back : (b q : ℕ) → ResponseAt t (level_order g) i b q → ResponseAt s (level_order f) i b q
    back b q h = same_response t s g f i (alike_back s t alike) (sides_count (task_count s) (task_count t) g f i alike.count (sides_back (task_count s) f g i sides)) b q h
