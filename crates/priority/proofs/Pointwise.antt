-- Two task sets with the same tasks but for their ranks have the same costs, periods and deadlines.
use Rattle.std.proofs.Common.{◌≡◌, ℕ, zero, suc, ◌*◌, List, [], ◌∷◌, map, length, get_or, sym, refl, ap, ◌∙◌, subst}
use lib.ListN.{length-map}
use Rattle.table.specs.Sporadic.{Sporadic}
use Rattle.table.specs.Rules.{TaskSet, task_at, task_count}
use Rattle.theory.specs.BusyPeriod.{load, ceil_div, BusyPeriod}
use Rattle.theory.specs.LeastSolution.{LeastSolution}
use Rattle.theory.specs.Sums.{sum_below}
use Rattle.theory.proofs.Sums.{sum_cong}
use Rattle.priority.specs.Ordering.{OrderingOf, unranked}

-- all that a response depends on, ranks apart
pub record Alike (s t : TaskSet) : Type 0 where
  pub mode : s.mode ≡ t.mode
  pub count : task_count s ≡ task_count t
  pub cost : (j : ℕ) → (task_at s j).cost ≡ (task_at t j).cost
  pub period : (j : ℕ) → (task_at s j).period ≡ (task_at t j).period
  pub deadline : (j : ℕ) → (task_at s j).deadline ≡ (task_at t j).deadline

getD_unranked : (ts : List Sporadic) (j : ℕ) (d : Sporadic) → get_or (map unranked ts) j (unranked d) ≡ unranked (get_or ts j d)
getD_unranked [] j d = refl
getD_unranked (t ∷ ts) zero d = refl
getD_unranked (t ∷ ts) (suc j) d = getD_unranked ts j d

same_unranked : (ss ts : List Sporadic) (j : ℕ) (d : Sporadic) → map unranked ss ≡ map unranked ts → unranked (get_or ss j d) ≡ unranked (get_or ts j d)
same_unranked ss ts j d e = sym (getD_unranked ss j d) ∙ ap (λ us. get_or us j (unranked d)) e ∙ getD_unranked ts j d

pub alike_from : (s t : TaskSet) → s.mode ≡ t.mode → map unranked s.tasks ≡ map unranked t.tasks → Alike s t
alike_from s t m e = record {
  mode = m;
  count = sym (length-map s.tasks unranked) ∙ ap length e ∙ length-map t.tasks unranked;
  cost = λ j. ap (λ (x : Sporadic). x.cost) (same_unranked s.tasks t.tasks j _ e);
  period = λ j. ap (λ (x : Sporadic). x.period) (same_unranked s.tasks t.tasks j _ e);
  deadline = λ j. ap (λ (x : Sporadic). x.deadline) (same_unranked s.tasks t.tasks j _ e);
}

pub alike_self : (s : TaskSet) → Alike s s
alike_self s = alike_from s s refl refl

pub alike_back : (s t : TaskSet) → Alike s t → Alike t s
alike_back s t a = record { mode = sym a.mode; count = sym a.count; cost = λ j. sym (a.cost j); period = λ j. sym (a.period j); deadline = λ j. sym (a.deadline j) }

-- one busy period
pub same_busy : (s t : TaskSet) (L : ℕ) → Alike s t → BusyPeriod s L → BusyPeriod t L
same_busy s t L a busy = subst (λ W. LeastSolution 1 W L) (λ k v. same v k) busy
  where
    same : (v : ℕ) → load s v ≡ load t v
    same v = sum_cong (task_count s) (λ j. ceil_div v (task_at s j).period * (task_at s j).cost) (λ j. ceil_div v (task_at t j).period * (task_at t j).cost) (λ j lt. ap (λ T. ceil_div v T * (task_at s j).cost) (a.period j) ∙ ap (λ C. ceil_div v (task_at t j).period * C) (a.cost j)) ∙ ap (λ n. sum_below n (λ j. ceil_div v (task_at t j).period * (task_at t j).cost)) a.count

pub alike_through : (s t u : TaskSet) → Alike s t → Alike t u → Alike s u
alike_through s t u a b = record { mode = a.mode ∙ b.mode; count = a.count ∙ b.count; cost = λ j. a.cost j ∙ b.cost j; period = λ j. a.period j ∙ b.period j; deadline = λ j. a.deadline j ∙ b.deadline j }

pub ordering_alike : (s t : TaskSet) → OrderingOf s t → Alike s t
ordering_alike s t o = alike_from s t (sym o.mode) (sym o.tasks)
