-- The shipped orders are lawful, and so are bands over two lawful orders.
use Rattle.std.specs.Prelude.{◌≡◌, ℕ, Bool, true, false, cond, not, ◌==◌, int_lt, nat_lt, refl}
use Rattle.std.proofs.Common.{sym, ◌∙◌, arith, lit≤}
use Rattle.std.proofs.lemmas.Int.{ints}
use Rattle.std.proofs.lemmas.Bool.Decides.{nat_tests}
use Rattle.std.proofs.lemmas.Bool.{both_ways, cond-false, ne_eqb}
use Rattle.table.specs.Rules.{TaskSet, Checked, task_at}
use Rattle.table.specs.declared.kinds.PolicyCode.{PolicyCode}
use Rattle.table.specs.declared.kinds.PolicyCode.TheVariants.{Fixed, Deadline, Arrival, Bands}
use Rattle.table.proofs.Ranges.{task_ranges, ranks_apart}
use Rattle.policy.specs.Chosen.{order_of, chosen_order}
use Rattle.policy.specs.Laws.{Lawful, Total, Transitive, EarlierFirst, ReachRange, ReachRule, SmallReach}
use Rattle.policy.specs.Order.{Order, job, reaches}
use Rattle.policy.specs.Orders.{fixed_order, deadline_order, arrival_order, bands_order}
use Rattle.policy.specs.declared.job.Reach.{Reach}
use Rattle.policy.specs.declared.job.Reach.TheVariants.{Always, Never}
use Rattle.policy.specs.Banded.{bands_rule}
use Rattle.policy.specs.Different.{differ}
use Rattle.policy.specs.Keyed.{keyed_total, keyed_transitive, keyed_earlier, keyed_range, keyed_rule}

module _ (s : TaskSet) (checked : Checked s) where
  fixed_total : Total s (fixed_order s)
  fixed_total x y kx ky ne =
      let apart : (task_at s x.task).rank ≡ (task_at s y.task).rank → x.task ≡ y.task = ranks_apart s checked x.task y.task kx ky in
      let other : x.task ≡ y.task → x.release ≡ y.release → ⊥ = differ x y ne in
      grind (arith, ints, nat_tests)

  fixed_transitive : Transitive s (fixed_order s)
  fixed_transitive x y z kx ky kz xy yz p q = grind (arith, ints, nat_tests)

  fixed_earlier : EarlierFirst s (fixed_order s)
  fixed_earlier i r a known h = grind (arith, ints, nat_tests)

  fixed_range : ReachRange s (fixed_order s)
  fixed_range i j ki kj ne = go (nat_lt (task_at s j).rank (task_at s i).rank)
    where
      go : (b : Bool) → SmallReach (cond b Always Never)
      go true = tt
      go false = tt

  fixed_rule : ReachRule s (fixed_order s)
  fixed_rule i j r a ki kj ne = cond-false (j == i) (int_lt r a) (nat_lt (task_at s j).rank (task_at s i).rank) (ne_eqb j i (λ e. ne (sym e))) ∙ go (nat_lt (task_at s j).rank (task_at s i).rank)
    where
      go : (b : Bool) → b ≡ reaches (cond b Always Never) r a
      go true = refl
      go false = refl

  pub fixed_lawful : Lawful s (fixed_order s)
  fixed_lawful = record { total = fixed_total; transitive = fixed_transitive; earlier_first = fixed_earlier; reach_range = fixed_range; reach_rule = fixed_rule }

  pub deadline_lawful : Lawful s (deadline_order s)
  deadline_lawful = record {
    total = keyed_total s (λ i. (task_at s i).deadline);
    transitive = keyed_transitive s (λ i. (task_at s i).deadline);
    earlier_first = keyed_earlier s (λ i. (task_at s i).deadline);
    reach_range = keyed_range s (λ i. (task_at s i).deadline) (λ i known. (task_ranges s checked i known).deadline_high);
    reach_rule = keyed_rule s (λ i. (task_at s i).deadline);
  }

  pub arrival_lawful : Lawful s arrival_order
  arrival_lawful = record {
    total = keyed_total s (λ i. 0);
    transitive = keyed_transitive s (λ i. 0);
    earlier_first = keyed_earlier s (λ i. 0);
    reach_range = keyed_range s (λ i. 0) (λ i known. lit≤ tt);
    reach_rule = keyed_rule s (λ i. 0);
  }

-- p, q and r say which of three tasks are of the first band; the rest tells of the two orders
one_ahead : (p q a b c d : Bool) → a ≡ not c → b ≡ not d → cond p (cond q a true) (cond q false b) ≡ not (cond q (cond p c true) (cond p false d))
one_ahead true true a b c d e f = e
one_ahead true false a b c d e f = refl
one_ahead false true a b c d e f = refl
one_ahead false false a b c d e f = f

chain : (p q r a b c d e f : Bool) → (a ≡ true → c ≡ true → e ≡ true) → (b ≡ true → d ≡ true → f ≡ true) → cond p (cond q a true) (cond q false b) ≡ true → cond q (cond r c true) (cond r false d) ≡ true → cond p (cond r e true) (cond r false f) ≡ true
chain true true true a b c d e f u v x y = u x y
chain true false true a b c d e f u v x y = absurd (both_ways false refl y)
chain true q false a b c d e f u v x y = refl
chain false true r a b c d e f u v x y = absurd (both_ways false refl x)
chain false false true a b c d e f u v x y = absurd (both_ways false refl y)
chain false false false a b c d e f u v x y = v x y

same_band : (p a b : Bool) → a ≡ true → b ≡ true → cond p (cond p a true) (cond p false b) ≡ true
same_band true a b e f = e
same_band false a b e f = f

small_across : (p q : Bool) (u v : Reach) → SmallReach u → SmallReach v → SmallReach (cond p (cond q u Never) (cond q Always v))
small_across true true u v e f = e
small_across true false u v e f = tt
small_across false true u v e f = tt
small_across false false u v e f = f

pub bands_lawful : (s : TaskSet) (k : ℕ) (first second : Order) → Lawful s first → Lawful s second → Lawful s (bands_order k first second)
bands_lawful s k first second f g = record {
  total = λ x y kx ky ne. one_ahead (nat_lt x.task k) (nat_lt y.task k) (first.ahead x y) (second.ahead x y) (first.ahead y x) (second.ahead y x) (f.total x y kx ky ne) (g.total x y kx ky ne);
  transitive = λ x y z kx ky kz xy yz. chain (nat_lt x.task k) (nat_lt y.task k) (nat_lt z.task k) (first.ahead x y) (second.ahead x y) (first.ahead y z) (second.ahead y z) (first.ahead x z) (second.ahead x z) (f.transitive x y z kx ky kz xy yz) (g.transitive x y z kx ky kz xy yz);
  earlier_first = λ i r a known h. same_band (nat_lt i k) (first.ahead (job i r) (job i a)) (second.ahead (job i r) (job i a)) (f.earlier_first i r a known h) (g.earlier_first i r a known h);
  reach_range = λ i j ki kj ne. small_across (nat_lt i k) (nat_lt j k) (first.reach i j) (second.reach i j) (f.reach_range i j ki kj ne) (g.reach_range i j ki kj ne);
  reach_rule = bands_rule s k first second f.reach_rule g.reach_rule;
}

pub chosen_lawful : (s : TaskSet) → Checked s → Lawful s (chosen_order s)
chosen_lawful s checked = go s.policy
  where
    go : (p : PolicyCode) → Lawful s (order_of p s)
    go Fixed = fixed_lawful s checked
    go Deadline = deadline_lawful s checked
    go Arrival = arrival_lawful s checked
    go Bands = bands_lawful s s.band (fixed_order s) (deadline_order s) (fixed_lawful s checked) (deadline_lawful s checked)
