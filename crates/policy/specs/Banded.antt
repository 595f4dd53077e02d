-- The reach rule of bands, from the rules of the two orders.
use Rattle.std.specs.Prelude.{◌≡◌, ℕ, Bool, true, false, cond, ℤ, nat_lt, refl}
use Rattle.table.specs.Rules.{TaskSet}
use Rattle.policy.specs.Laws.{ReachRule}
use Rattle.policy.specs.Order.{Order, job, reaches}
use Rattle.policy.specs.Orders.{bands_order}
use Rattle.policy.specs.declared.job.Reach.{Reach}
use Rattle.policy.specs.declared.job.Reach.TheVariants.{Always, Never}

-- x and u tell of the first order, y and v of the second; p and q say which tasks are of the first band
by_band : (p q : Bool) (x y : Bool) (u v : Reach) (r a : ℤ) → x ≡ reaches u r a → y ≡ reaches v r a → cond q (cond p x true) (cond p false y) ≡ reaches (cond p (cond q u Never) (cond q Always v)) r a
by_band true true x y u v r a e f = e
by_band true false x y u v r a e f = refl
by_band false true x y u v r a e f = refl
by_band false false x y u v r a e f = f

pub bands_rule : (s : TaskSet) (k : ℕ) (first second : Order) → ReachRule s first → ReachRule s second → ReachRule s (bands_order k first second)
bands_rule s k first second f g i j r a ki kj ne =
    by_band (nat_lt i k) (nat_lt j k) (first.ahead (job j r) (job i a)) (second.ahead (job j r) (job i a)) (first.reach i j) (second.reach i j) r a (f i j r a ki kj ne) (g i j r a ki kj ne)
