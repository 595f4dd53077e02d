-- What the lanes answer is what the definitions say: the busy period covers every window, and a response over lanes is the response.
use Rattle.std.proofs.Common.{◌≡◌, ℕ, suc, ◌+◌, ◌-◌, ◌/◌, ◌<◌, ◌≤◌, Bool, true, false, ltb, leb, List, sym, refl, ap, ◌∙◌, subst, ap₂, add-mul, le-div_iff_mul-le, div-mul-le_self, arith}
use Rattle.std.proofs.lemmas.Bool.Decides.{nat_tests}
use Rattle.table.specs.Rules.{TaskSet, Checked, task_at, task_count}
use Rattle.table.specs.declared.kinds.Mode.{Mode}
use Rattle.table.specs.declared.kinds.Mode.TheVariants.{NonPreemptive, Preemptive}
use Rattle.policy.specs.Order.{Order}
use Rattle.policy.specs.Laws.{Lawful}
use Rattle.theory.specs.BusyPeriod.{ceil_div, BusyPeriod}
use Rattle.theory.specs.LeastSolution.{LeastSolution}
use Rattle.theory.specs.Response.{until_finish, until_start, ResponseIn, ResponseAt}
use Rattle.theory.specs.Worst.{Worst}
use Rattle.theory.proofs.Existence.{finish_covered, start_covered}
use Rattle.theory.proofs.WorstExists.{one_response}
use Rattle.analysis.specs.Best.{Best}
use Rattle.analysis.specs.Own.{own_work, work_in, window_work, response_in, LaneResponse}
use Rattle.analysis.specs.declared.lanes.Lane.{Lane}
use Rattle.analysis.specs.declared.window.Own.{Own}
use Rattle.analysis.proofs.Bridge.{Made, work_lanes, blocking_lanes}
use Rattle.analysis.proofs.Windows.{least_upto}

-- the job at an offset inside the busy period is one of those that it counts
pub own_count : (a L d : ℕ) → 1 ≤ d → a < L → 1 + a / d ≤ ceil_div L d
own_count a L d pos h = (le-div_iff_mul-le pos).1 (omega (arith, add-mul 1 (a / d) d, div-mul-le_self a d))

-- the analysed task as its window has it
pub record OwnOf (s : TaskSet) (i : ℕ) (w : Own) : Type 0 where
  pub mode : w.mode ≡ s.mode
  pub cost : w.cost ≡ (task_at s i).cost
  pub period : w.period ≡ (task_at s i).period

module _ (s : TaskSet) (o : Order) (checked : Checked s) (lawful : Lawful s o) (i : ℕ) (known : i < task_count s) (ls : List Lane) (made : Made s o i ls) (w : Own) (own : OwnOf s i w) (L : ℕ) (busy : BusyPeriod s L) (short : L ≤ 60000) where
  own_same : (m : Mode) → s.mode ≡ m → (a : ℕ) → own_work w ls a ≡ work_in m (task_at s i).cost (task_at s i).period ls a
  own_same m e a =
      ap (λ c. work_in w.mode c w.period ls a) own.cost
      ∙ ap (λ d. work_in w.mode (task_at s i).cost d ls a) own.period
      ∙ ap (λ n. work_in n (task_at s i).cost (task_at s i).period ls a) (own.mode ∙ e)

  response_same : (m : Mode) → s.mode ≡ m → (a t : ℕ) → response_in w.mode w.cost a t ≡ response_in m (task_at s i).cost a t
  response_same m e a t = ap (λ c. response_in w.mode c a t) own.cost ∙ ap (λ n. response_in n (task_at s i).cost a t) (own.mode ∙ e)

  finish_lanes : s.mode ≡ Preemptive → (a t : ℕ) → a ≤ 60000 → t ≤ 60001 → until_finish s o i a t ≡ window_work w ls a t
  finish_lanes mode a t ha ht =
      ap₂ (λ x y. x + y) (sym (own_same Preemptive mode a)) (work_lanes s o checked lawful i known ls made a t ha ht)

  start_lanes : s.mode ≡ NonPreemptive → (a t : ℕ) → a ≤ 60000 → suc t ≤ 60001 → suc (until_start s o i a t) ≡ window_work w ls a (suc t)
  start_lanes mode a t ha ht =
      omega (arith, own_same NonPreemptive mode a, work_lanes s o checked lawful i known ls made a (suc t) ha ht, blocking_lanes s o checked lawful i known ls made a ha)

  -- the busy period covers the window at every offset inside it
  pub fits : (a : ℕ) → a < L → window_work w ls a L ≤ L
  fits a h = go s.mode refl
    where
      go : (m : Mode) → s.mode ≡ m → window_work w ls a L ≤ L
      go Preemptive e = omega (arith, finish_lanes e a L (omega arith) (omega arith), finish_covered s o checked lawful i a known L busy h)
      go NonPreemptive e =
          let back : suc (L - 1) ≡ L = omega arith in
          omega (arith, back, ap (window_work w ls a) back, start_lanes e a (L - 1) (omega arith) (omega arith), start_covered s o checked lawful i a known L busy h)

  -- a response over the lanes is the response
  pub lanes_exact : (a r : ℕ) → a < L → LaneResponse w ls L a r → ResponseAt s o i a r
  lanes_exact a r h (t, inside, solved, gives) = go s.mode refl
    where
      preemptive : s.mode ≡ Preemptive → LeastSolution 1 (until_finish s o i a) t
      preemptive mode = least_upto 1 t 60001 (window_work w ls a) (until_finish s o i a) (λ v small. sym (finish_lanes mode a v (omega arith) small)) (omega arith) solved

      nonpreemptive : s.mode ≡ NonPreemptive → LeastSolution 0 (until_start s o i a) (t - 1)
      nonpreemptive mode = record {
        from = omega arith;
        solves = let back : suc (t - 1) ≡ t = omega (arith, solved.from) in let e = start_lanes mode a (t - 1) (omega arith) (omega (arith, solved.from)) in omega (arith, e, ap (window_work w ls a) back, solved.solves);
        least = λ v from fixed. by_size v fixed (leb (suc v) 60001) refl mode;
      }
        where
          by_size : (v : ℕ) → v ≡ until_start s o i a v → (b : Bool) → leb (suc v) 60001 ≡ b → s.mode ≡ NonPreemptive → t - 1 ≤ v
          by_size v fixed true e m = let small : suc v ≤ 60001 = grind (arith, nat_tests) in omega (arith, solved.least (suc v) (omega arith) (ap suc fixed ∙ start_lanes m a v (omega arith) small))
          by_size v fixed false e m = let big : 60001 < suc v = grind (arith, nat_tests) in omega arith

      go : (m : Mode) → s.mode ≡ m → ResponseIn s.mode s o i a r
      go Preemptive e = subst (λ m. ResponseIn m s o i a r) (sym e) (t, preemptive e, gives ∙ response_same Preemptive e a t)
      go NonPreemptive e = subst (λ m. ResponseIn m s o i a r) (sym e) (t - 1, nonpreemptive e, gives ∙ response_same NonPreemptive e a t)

  -- the best over the lanes is the worst response of the task
  pub best_worst : (r a : ℕ) → Best (LaneResponse w ls L) L r a → Worst s o L i r a
  best_worst r a best = record {
    inside = best.inside;
    given = lanes_exact a r best.inside best.given;
    longest = λ b x h given. let w = best.longest b h in omega (arith, w.2, one_response s o i b x w.0 given (lanes_exact b w.0 h w.1));
    least = λ b h given. not_before b given (ltb b a) refl;
  }
    where
      not_before : (b : ℕ) → ResponseAt s o i b r → (c : Bool) → ltb b a ≡ c → a ≤ b
      not_before b given true e =
          let less : b < a = grind (arith, nat_tests) in
          let w = best.least b less in
          absurd (omega (arith, w.2, one_response s o i b r w.0 given (lanes_exact b w.0 (omega (arith, best.inside)) w.1)))
      not_before b given false e = grind (arith, nat_tests)
