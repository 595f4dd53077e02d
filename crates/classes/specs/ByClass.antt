-- The laws of an order by class, from those of the order within a class.
use Rattle.std.specs.Prelude.{◌≡◌, ℕ, ◌≤◌, Bool, true, false, cond, not, ℤ, pos, negsuc, ◌≤ℤ◌, nat_lt, refl}
use Rattle.std.proofs.Common.{arith}
use Rattle.std.proofs.lemmas.Int.{ints}
use Rattle.std.proofs.lemmas.Bool.Decides.{nat_tests}
use Rattle.table.specs.Rules.{TaskSet}
use Rattle.policy.specs.Laws.{Total, Transitive, EarlierFirst, SmallReach, ReachRange, ReachRule}
use Rattle.policy.specs.Order.{job, reaches}
use Rattle.policy.specs.Orders.{key_reach, keyed_order}
use Rattle.policy.specs.declared.job.Reach.{Reach}
use Rattle.policy.specs.declared.job.Reach.TheVariants.{Always, Never}
use Rattle.policy.specs.Keyed.{keyed_total, keyed_transitive, keyed_earlier, keyed_rule}
use Rattle.classes.specs.ClassOrder.{by_class, class_order}

one_ahead : (a b : ℕ) (p q : Bool) → p ≡ not q → by_class a b true false p ≡ not (by_class b a true false q)
one_ahead a b p q h = grind (arith, nat_tests)

chain : (a b c : ℕ) (p q r : Bool) → (p ≡ true → q ≡ true → r ≡ true) → by_class a b true false p ≡ true → by_class b c true false q ≡ true → by_class a c true false r ≡ true
chain a b c p q r h ab bc = grind (arith, nat_tests)

in_class : (a : ℕ) (p : Bool) → p ≡ true → by_class a a true false p ≡ true
in_class a p h = grind (arith, nat_tests)

by_reach : (lower higher p : Bool) (u : Reach) (r a : ℤ) → p ≡ reaches u r a → cond lower true (cond higher false p) ≡ reaches (cond lower Always (cond higher Never u)) r a
by_reach true higher p u r a h = refl
by_reach false true p u r a h = refl
by_reach false false p u r a h = h

small : (lower higher : Bool) (u : Reach) → SmallReach u → SmallReach (cond lower Always (cond higher Never u))
small true higher u h = tt
small false true u h = tt
small false false u h = h

tie_small : (i j : ℕ) → cond (nat_lt i j) 1 0 ≤ 1
tie_small i j = grind (arith, nat_tests)

key_small : (i m j n : ℕ) → m ≤ 99999 → n ≤ 99999 → (negsuc 99999 ≤ℤ key_reach i m j n) × (key_reach i m j n ≤ℤ pos 100000)
key_small i m j n hm hn = let t = tie_small i j in (omega (arith, ints), omega (arith, ints))

module _ (s : TaskSet) (class offset : ℕ → ℕ) where
  pub class_total : Total s (class_order class offset)
  class_total x y kx ky ne =
      one_ahead (class x.task) (class y.task) ((keyed_order offset).ahead x y) ((keyed_order offset).ahead y x) (keyed_total s offset x y kx ky ne)

  pub class_transitive : Transitive s (class_order class offset)
  class_transitive x y z kx ky kz xy yz =
      chain (class x.task) (class y.task) (class z.task) ((keyed_order offset).ahead x y) ((keyed_order offset).ahead y z) ((keyed_order offset).ahead x z)
      (keyed_transitive s offset x y z kx ky kz xy yz)

  pub class_earlier : EarlierFirst s (class_order class offset)
  class_earlier i r a known h = in_class (class i) ((keyed_order offset).ahead (job i r) (job i a)) (keyed_earlier s offset i r a known h)

  pub class_range : ((i : ℕ) → offset i ≤ 99999) → ReachRange s (class_order class offset)
  class_range low i j ki kj ne = small (nat_lt (class j) (class i)) (nat_lt (class i) (class j)) ((keyed_order offset).reach i j) (key_small i (offset i) j (offset j) (low i) (low j))

  pub class_rule : ReachRule s (class_order class offset)
  class_rule i j r a ki kj ne =
      by_reach (nat_lt (class j) (class i)) (nat_lt (class i) (class j)) ((keyed_order offset).ahead (job j r) (job i a)) ((keyed_order offset).reach i j) r a (keyed_rule s offset i j r a ki kj ne)
