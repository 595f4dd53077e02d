-- The laws of an order by release plus a constant of the task.
use Rattle.std.specs.Prelude.{◌≡◌, ℕ, ◌<◌, ◌≤◌, true, cond, not, ℤ, pos, negsuc, ◌+ℤ◌, ◌≤ℤ◌, ◌<ℤ◌, ◌≢◌, int_le, nat_lt}
use Rattle.std.proofs.Common.{ap, arith}
use Rattle.std.proofs.lemmas.Int.{ints}
use Rattle.std.proofs.lemmas.Bool.Decides.{nat_tests}
use Rattle.table.specs.Rules.{TaskSet, task_count}
use Rattle.policy.specs.Laws.{Total, Transitive, EarlierFirst, ReachRange, ReachRule}
use Rattle.policy.specs.Orders.{key_ahead, key_reach, keyed_order}
use Rattle.policy.specs.Different.{differ}

key_total : (i j : ℕ) (u v : ℤ) → (i ≡ j → u ≢ v) → key_ahead i u j v ≡ not (key_ahead j v i u)
key_total i j u v ne = grind (arith, ints, nat_tests)

key_chain : (i j k : ℕ) (u v w : ℤ) → key_ahead i u j v ≡ true → key_ahead j v k w ≡ true → key_ahead i u k w ≡ true
key_chain i j k u v w p q = grind (arith, ints, nat_tests)

key_self : (i : ℕ) (u v : ℤ) → u <ℤ v → key_ahead i u i v ≡ true
key_self i u v h = grind (arith, ints, nat_tests)

key_rule : (i m j n : ℕ) (r a : ℤ) → (i ≢ j) → key_ahead j (r +ℤ pos n) i (a +ℤ pos m) ≡ int_le r (a +ℤ key_reach i m j n)
key_rule i m j n r a ne = grind (arith, ints, nat_tests)

tie_small : (i j : ℕ) → cond (nat_lt i j) 1 0 ≤ 1
tie_small i j = grind (arith, nat_tests)

key_range : (i m j n : ℕ) → m ≤ 65535 → n ≤ 65535 → (negsuc 99999 ≤ℤ key_reach i m j n) × (key_reach i m j n ≤ℤ pos 100000)
key_range i m j n hm hn = let t = tie_small i j in (omega (arith, ints), omega (arith, ints))

same_release : (r a : ℤ) (m n : ℕ) → m ≡ n → r +ℤ pos m ≡ a +ℤ pos n → r ≡ a
same_release r a m n e h = omega (arith, ints)

module _ (s : TaskSet) (offset : ℕ → ℕ) where
  pub keyed_total : Total s (keyed_order offset)
  keyed_total x y kx ky ne = key_total x.task y.task (x.release +ℤ pos (offset x.task)) (y.release +ℤ pos (offset y.task))
      (λ e h. differ x y ne e (same_release x.release y.release (offset x.task) (offset y.task) (ap offset e) h))

  pub keyed_transitive : Transitive s (keyed_order offset)
  keyed_transitive x y z kx ky kz xy yz = key_chain x.task y.task z.task (x.release +ℤ pos (offset x.task)) (y.release +ℤ pos (offset y.task)) (z.release +ℤ pos (offset z.task))

  pub keyed_earlier : EarlierFirst s (keyed_order offset)
  keyed_earlier i r a known h = key_self i (r +ℤ pos (offset i)) (a +ℤ pos (offset i)) (omega (arith, ints))

  pub keyed_rule : ReachRule s (keyed_order offset)
  keyed_rule i j r a ki kj ne = key_rule i (offset i) j (offset j) r a ne

  pub keyed_range : ((i : ℕ) → i < task_count s → offset i ≤ 65535) → ReachRange s (keyed_order offset)
  keyed_range small i j ki kj ne = key_range i (offset i) j (offset j) (small i ki) (small j kj)
