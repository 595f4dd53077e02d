-- Task i put at rank k by an exchange of two ranks: what stands behind k stays, and the rule goes on from there.
use Rattle.std.proofs.Common.{◌≡◌, ℕ, ◌-◌, ◌<◌, ◌≤◌, Bool, true, false, Decides, ◌⊎◌, sym, refl, ap, ◌∙◌, subst, inl, inr, arith}
use Rattle.std.specs.Bool.{then_some}
use Rattle.std.proofs.lemmas.Bool.{both_ways, cases_eq, cases_lt}
use Rattle.table.specs.Rules.{TaskSet, Checked, task_count}
use Rattle.table.specs.declared.checked.Table.{Table}
use Rattle.table.proofs.Ranges.{task_ranges, ranks_apart}
use Rattle.theory.specs.BusyPeriod.{BusyPeriod}
use Rattle.priority.specs.Ordering.{OrderingOf, rank_in}
use Rattle.priority.specs.Assignment.{Fits, Takes, Filled}
use Rattle.priority.specs.Exchange.{exchanged, with_exchanged}
use Rattle.priority.specs.Steps.{JudgedBusy, InTime, Tried}
use Rattle.priority.proofs.Pointwise.{Alike, alike_back, same_busy, ordering_alike}
use Rattle.priority.proofs.Fitting.{SamePlaced, time_fits, fits_time, fits_moved}
use Rattle.priority.proofs.Exchanging.{exchange_ordering, rank_exchanged, exchanged_first, exchanged_behind, exchanged_low}

-- an order of an order
pub ordering_more : (s t u : TaskSet) → OrderingOf s t → OrderingOf t u → OrderingOf s u
ordering_more s t u a b = record { policy = b.policy; band = b.band; mode = b.mode ∙ a.mode; tasks = b.tasks ∙ a.tasks; ranks = b.ranks }

-- before the first step no rank is filled
pub none_filled : (t : TaskSet) (L : ℕ) → Checked t → Filled t L (task_count t)
none_filled t L checked i here lt = absurd (omega (arith, (task_ranges t checked i here).rank_high))

module _ (t : TaskSet) (checked : Checked t) (k i : ℕ) (here : i < task_count t) (left : rank_in t i ≤ k) (low : 1 ≤ k) (high : k ≤ task_count t) where
  pub put_ordering : OrderingOf t (with_exchanged (rank_in t i) k t)
  put_ordering = exchange_ordering (rank_in t i) k t checked (task_ranges t checked i here).rank_low (task_ranges t checked i here).rank_high low high

  module _ (u : TaskSet) (is : u ≡ with_exchanged (rank_in t i) k t) where
    order_u : OrderingOf t u
    order_u = subst (λ v. OrderingOf t v) (sym is) put_ordering

    alike_u : Alike t u
    alike_u = ordering_alike t u order_u

    rank_u : (j : ℕ) → j < task_count t → rank_in u j ≡ exchanged (rank_in t i) k (rank_in t j)
    rank_u j lt = ap (λ v. rank_in v j) is ∙ rank_exchanged (rank_in t i) k t j lt

    at_k : rank_in u i ≡ k
    at_k = rank_u i here ∙ exchanged_first (rank_in t i) k

    -- a rank after k stays
    stays : (j : ℕ) → j < task_count t → k < rank_in t j → rank_in u j ≡ rank_in t j
    stays j lt h = rank_u j lt ∙ exchanged_behind (rank_in t i) k (rank_in t j) left h

    stays_low : (j : ℕ) → j < task_count t → rank_in t j ≤ k → rank_in u j ≤ k
    stays_low j lt h = omega (arith, rank_u j lt, exchanged_low (rank_in t i) k (rank_in t j) left h)

    placed : (q : ℕ) → k ≤ q → SamePlaced q t u
    placed q le j lt = (λ h. omega (arith, stays j lt (omega arith)), λ h. back h (cases_lt k (rank_in t j)))
      where
        back : q < rank_in u j → (k < rank_in t j) ⊎ (rank_in t j ≤ k) → q < rank_in t j
        back h (inl b) = omega (arith, stays j lt b)
        back h (inr b) = absurd (omega (arith, stays_low j lt b))

    placed_back : (q : ℕ) → k ≤ q → SamePlaced q u t
    placed_back q le j lt = let p = placed q le j (omega (arith, alike_u.count)) in (p.1, p.0)

    put_fits : (L : ℕ) → InTime u L i → Fits t L k i
    put_fits L all = time_fits t u alike_u k i order_u.ranks here at_k (placed k (omega arith)) L all

    put_unfit : (L : ℕ) → (InTime u L i → ⊥) → Fits t L k i → ⊥
    put_unfit L late fits = late (fits_time t u alike_u k i order_u.ranks here at_k (placed k (omega arith)) L fits)

    put_busy : (L : ℕ) → BusyPeriod t L → BusyPeriod u L
    put_busy L busy = same_busy t u L alike_u busy

    put_known : i < task_count u
    put_known = omega (arith, alike_u.count)

    -- the order is kept where the task is in time in it
    pub put_tried : (b : Bool) (v : Table) → ((L : ℕ) → JudgedBusy u L → i < task_count u → Decides b (InTime u L i)) → (L : ℕ) → JudgedBusy t L → Tried t L k i (then_some b v)
    put_tried b v told L busy = go b (told L (busy.0, put_busy L busy.1) put_known)
      where
        go : (b : Bool) → Decides b (InTime u L i) → Tried t L k i (then_some b v)
        go true (fits, late) = put_fits L (fits refl)
        go false (fits, late) = λ not_behind. put_unfit L (λ all. both_ways false refl (late all))

    -- the ranks after k - 1 are filled by the rule, where those after k were and i is the highest-numbered task left that fits
    pub put_filled : (L : ℕ) → Fits t L k i → ((j : ℕ) → i < j → j < task_count t → rank_in t j ≤ k → Fits t L k j → ⊥) → Filled t L k → Filled u L (k - 1)
    put_filled L fits highest filled m lt above = go (cases_eq (rank_in u m) k)
      where
        lt_t : m < task_count t
        lt_t = omega (arith, alike_u.count)

        new : m ≡ i → rank_in u m ≡ k → Takes u L m
        new e at = (
          subst (λ q. Fits u L q m) (sym at) (subst (λ z. Fits u L k z) (sym e) (fits_moved t u alike_u k i L (placed k (omega arith)) fits)),
          λ j over below less f. highest j (omega arith) (omega (arith, alike_u.count)) (still j (omega (arith, alike_u.count)) (omega arith) (cases_lt k (rank_in t j))) (fits_moved u t (alike_back t u alike_u) k j L (placed_back k (omega arith)) (subst (λ q. Fits u L q j) at f)),
        )
          where
            still : (j : ℕ) → j < task_count t → rank_in u j < k → (k < rank_in t j) ⊎ (rank_in t j ≤ k) → rank_in t j ≤ k
            still j b h (inl c) = absurd (omega (arith, stays j b c))
            still j b h (inr c) = c

        old : k < rank_in t m → rank_in u m ≡ rank_in t m → Takes t L m → Takes u L m
        old h same (f, none) = (
          subst (λ q. Fits u L q m) (sym same) (fits_moved t u alike_u (rank_in t m) m L (placed (rank_in t m) (omega arith)) f),
          λ j over below less g. none j over (omega (arith, alike_u.count)) (still j (omega (arith, alike_u.count)) (omega arith) (cases_lt k (rank_in t j))) (fits_moved u t (alike_back t u alike_u) (rank_in t m) j L (placed_back (rank_in t m) (omega arith)) (subst (λ q. Fits u L q j) same g)),
        )
          where
            still : (j : ℕ) → j < task_count t → rank_in u j < rank_in t m → (k < rank_in t j) ⊎ (rank_in t j ≤ k) → rank_in t j < rank_in t m
            still j b less (inl c) = omega (arith, stays j b c)
            still j b less (inr c) = omega arith

        go : (rank_in u m ≡ k) ⊎ (rank_in u m ≡ k → ⊥) → Takes u L m
        go (inl e) = new (ranks_apart u order_u.ranks m i lt (omega (arith, alike_u.count)) (e ∙ sym at_k)) e
        go (inr ne) = let more : k < rank_in t m = (placed k (omega arith) m lt_t).1 (omega (arith, ne)) in old more (stays m lt_t more) (filled m lt_t more)
