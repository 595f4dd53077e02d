-- The order of fixed priorities is lawful.
use Rattle.std.proofs.Common.{◌≡◌, Bool, true, false, cond, eqb, ltb, sym, refl, ◌∙◌, arith}
use lib.Signed.{lt_z}
use Rattle.std.proofs.lemmas.Int.{ints}
use Rattle.std.proofs.lemmas.Bool.Decides.{nat_tests}
use Rattle.std.proofs.lemmas.Bool.{cond-false, ne_eqb}
use Rattle.table.specs.Rules.{TaskSet, Checked, task_at}
use Rattle.table.proofs.Ranges.{ranks_apart}
use Rattle.policy.specs.Laws.{Lawful, Total, Transitive, EarlierFirst, ReachRange, ReachRule, SmallReach}
use Rattle.policy.specs.Orders.{fixed_order}
use Rattle.policy.specs.Order.{reaches}
use Rattle.policy.specs.declared.job.Reach.TheVariants.{Always, Never}
use Rattle.policy.proofs.Lawfulness.{lawful}
use Rattle.policy.specs.Different.{differ}
use lib.Signed.{lt_z}

module _ (s : TaskSet) (checked : Checked s) where
  total : Total s (fixed_order s)
  total x y kx ky ne =
      let apart : (task_at s x.task).rank ≡ (task_at s y.task).rank → x.task ≡ y.task = ranks_apart s checked x.task y.task kx ky in
      let other : x.task ≡ y.task → x.release ≡ y.release → ⊥ = differ x y ne in
      grind (arith, ints, nat_tests)

  transitive : Transitive s (fixed_order s)
  transitive x y z kx ky kz xy yz p q = grind (arith, ints, nat_tests)

  earlier : EarlierFirst s (fixed_order s)
  earlier i r a known h = grind (arith, ints, nat_tests)

  range : ReachRange s (fixed_order s)
  range i j ki kj ne = go (ltb (task_at s j).rank (task_at s i).rank)
    where
      go : (b : Bool) → SmallReach (cond b Always Never)
      go true = tt
      go false = tt

  rule : ReachRule s (fixed_order s)
  rule i j r a ki kj ne = cond-false (eqb j i) (lt_z r a) (ltb (task_at s j).rank (task_at s i).rank) (ne_eqb j i (λ e. ne (sym e))) ∙ go (ltb (task_at s j).rank (task_at s i).rank)
    where
      go : (b : Bool) → b ≡ reaches (cond b Always Never) r a
      go true = refl
      go false = refl

  pub fixed_lawful : Lawful s (fixed_order s)
  fixed_lawful = lawful s (fixed_order s) total transitive earlier range rule
