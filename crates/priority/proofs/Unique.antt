-- The rule leaves no choice: two orders that are filled by it agree, and they stop at the same rank.
use Rattle.std.proofs.Common.{◌≡◌, ℕ, zero, suc, ◌+◌, ◌-◌, ◌<◌, ◌≤◌, ◌⊎◌, List, [], ◌∷◌, map, length, get_or, sym, refl, ap, ◌∙◌, subst, inl, inr, arith}
use Rattle.std.proofs.lemmas.Bool.{cases_eq, cases_lt}
use Rattle.table.specs.Sporadic.{Sporadic}
use Rattle.table.specs.Rules.{TaskSet, Checked, task_count}
use Rattle.table.proofs.Ranges.{task_ranges, ranks_apart}
use Rattle.priority.specs.Ordering.{unranked, rank_in}
use Rattle.priority.specs.Assignment.{Fits, Takes, Filled, Stuck, Assigned, Unfilled}
use Rattle.priority.proofs.Pointwise.{Alike, alike_back, alike_through, ordering_alike}
use Rattle.priority.proofs.Fitting.{SamePlaced, fits_moved}
use Rattle.priority.proofs.Ranked.{rank_taken}

module _ (t u : TaskSet) (alike : Alike t u) (L : ℕ) (checked_t : Checked t) (checked_u : Checked u) where
  -- the ranks after k of t are those of u
  Agree : ℕ → Type 0
  Agree k = (i : ℕ) → i < task_count t → k < rank_in t i → rank_in u i ≡ rank_in t i

  agree_back : (k : ℕ) → Agree k → (i : ℕ) → i < task_count t → k < rank_in u i → rank_in t i ≡ rank_in u i
  unfolding Agree
  agree_back k agree i here above = go (rank_taken t checked_t (rank_in u i) (omega arith) (omega (arith, (task_ranges u checked_u i (omega (arith, alike.count))).rank_high, alike.count)))
    where
      go : (j : ℕ) × (j < task_count t) × (rank_in t j ≡ rank_in u i) → rank_in t i ≡ rank_in u i
      go (j, there, e) = ap (rank_in t) (sym (ranks_apart u checked_u j i (omega (arith, alike.count)) (omega (arith, alike.count)) (agree j there (omega arith) ∙ e))) ∙ e

  agree_placed : (k : ℕ) → Agree k → SamePlaced k t u
  unfolding Agree
  agree_placed k agree j lt = (λ h. omega (arith, agree j lt h), λ h. omega (arith, agree_back k agree j lt h))

  agree_back_placed : (k : ℕ) → Agree k → SamePlaced k u t
  agree_back_placed k agree j lt = let p = agree_placed k agree j (omega (arith, alike.count)) in (p.1, p.0)

  -- one more rank
  next : (k : ℕ) → Agree (suc k) → Filled t L k → Filled u L k → Agree k
  unfolding Agree
  next k agree filled-t filled-u i here above = go (cases_eq (rank_in t i) (suc k))
    where
      at : rank_in t i ≡ suc k → (j : ℕ) × (j < task_count u) × (rank_in u j ≡ suc k) → rank_in u i ≡ rank_in t i
      at e (j, there, f) = two (cases_eq i j)
        where
          here_u : i < task_count u
          here_u = omega (arith, alike.count)

          there_t : j < task_count t
          there_t = omega (arith, alike.count)

          left_t : (i ≡ j → ⊥) → rank_in t j < rank_in t i
          left_t ne = three (cases_lt (rank_in t i) (rank_in t j))
            where
              three : (rank_in t i < rank_in t j) ⊎ (rank_in t j ≤ rank_in t i) → rank_in t j < rank_in t i
              three (inl lt) = absurd (omega (arith, agree j there_t (omega arith)))
              three (inr le) = let apart : rank_in t i ≡ rank_in t j → ⊥ = λ q. ne (ranks_apart t checked_t i j here there_t q) in omega (arith, apart)

          left_u : (i ≡ j → ⊥) → rank_in u i < rank_in u j
          left_u ne = three (cases_lt (rank_in u j) (rank_in u i))
            where
              three : (rank_in u j < rank_in u i) ⊎ (rank_in u i ≤ rank_in u j) → rank_in u i < rank_in u j
              three (inl lt) = absurd (omega (arith, agree_back (suc k) agree i here (omega arith)))
              three (inr le) = let apart : rank_in u i ≡ rank_in u j → ⊥ = λ q. ne (ranks_apart u checked_u i j here_u there q) in omega (arith, apart)

          takes_t : Takes t L i
          takes_t = filled-t i here above

          takes_u : Takes u L j
          takes_u = filled-u j there (omega arith)

          two : (i ≡ j) ⊎ (i ≡ j → ⊥) → rank_in u i ≡ rank_in t i
          two (inl q) = ap (rank_in u) q ∙ f ∙ sym e
          two (inr ne) = three (cases_lt i j)
            where
              three : (i < j) ⊎ (j ≤ i) → rank_in u i ≡ rank_in t i
              three (inl lt) = absurd (takes_t.1 j lt there_t (left_t ne) (subst (λ q. Fits t L q j) (sym e) (fits_moved u t (alike_back t u alike) (suc k) j L (agree_back_placed (suc k) agree) (subst (λ q. Fits u L q j) f takes_u.0))))
              three (inr le) = absurd (takes_u.1 i (omega (arith, ne)) here_u (left_u ne) (subst (λ q. Fits u L q i) (sym f) (fits_moved t u alike (suc k) i L (agree_placed (suc k) agree) (subst (λ q. Fits t L q i) e takes_t.0))))

      go : (rank_in t i ≡ suc k) ⊎ (rank_in t i ≡ suc k → ⊥) → rank_in u i ≡ rank_in t i
      go (inl e) = at e (rank_taken u checked_u (suc k) (omega arith) (omega (arith, (task_ranges t checked_t i here).rank_high, alike.count)))
      go (inr ne) = agree i here (omega (arith, ne))

  -- where both are filled they agree
  agrees : (d k : ℕ) → k + d ≡ task_count t → Filled t L k → Filled u L k → Agree k
  unfolding Agree
  agrees zero k e filled-t filled-u = λ i here above. absurd (omega (arith, (task_ranges t checked_t i here).rank_high))
  agrees (suc d) k e filled-t filled-u = next k (agrees d (suc k) (omega arith) (λ i lt h. filled-t i lt (omega arith)) (λ i lt h. filled-u i lt (omega arith))) filled-t filled-u

  -- an order that is filled further than the other is not stuck where the other is
  further : (k m : ℕ) → k < m → m ≤ task_count t → Filled t L k → Filled u L m → Stuck u L m → ⊥
  unfolding Agree
  further k m less high filled-t filled-u stuck = go (rank_taken t checked_t m (omega arith) high)
    where
      agree : Agree m
      agree = agrees (task_count t - m) m (omega arith) (λ i lt h. filled-t i lt (omega arith)) filled-u

      go : (i : ℕ) × (i < task_count t) × (rank_in t i ≡ m) → ⊥
      go (i, here, e) = stuck i (omega (arith, alike.count)) (left (cases_lt m (rank_in u i))) (fits_moved t u alike m i L (agree_placed m agree) (subst (λ q. Fits t L q i) e (filled-t i here (omega arith)).0))
        where
          left : (m < rank_in u i) ⊎ (rank_in u i ≤ m) → rank_in u i ≤ m
          left (inl lt) = absurd (omega (arith, agree_back m agree i here lt))
          left (inr le) = le

-- tasks that agree in their ranks and in all else are the same
same_tasks : (ts us : List Sporadic) (d : Sporadic) → map unranked ts ≡ map unranked us → ((j : ℕ) → j < length ts → (get_or us j d).rank ≡ (get_or ts j d).rank) → ts ≡ us
same_tasks [] [] d e h = refl
same_tasks [] (u ∷ us) d e h = absurd (let z : ◌≡◌ {A = ℕ} 0 1 = cc in omega arith)
same_tasks (t ∷ ts) [] d e h = absurd (let z : ◌≡◌ {A = ℕ} 0 1 = cc in omega arith)
same_tasks (t ∷ ts) (u ∷ us) d e h =
    let first : unranked t ≡ unranked u = cc in
    let rest : map unranked ts ≡ map unranked us = cc in
    let more : ts ≡ us = same_tasks ts us d rest (λ j lt. h (suc j) (omega arith)) in
    let ranks : u.rank ≡ t.rank = h 0 (omega arith) in
    λ i. record { cost = (first i).cost; period = (first i).period; deadline = (first i).deadline; rank = sym ranks i; name = (first i).name } ∷ more i

pub one_order : (s t u : TaskSet) (L : ℕ) → Assigned s t L → Assigned s u L → t ≡ u
unfolding Agree
one_order s t u L a b = λ i. record { policy = (a.ordering.policy ∙ sym b.ordering.policy) i; mode = (a.ordering.mode ∙ sym b.ordering.mode) i; band = (a.ordering.band ∙ sym b.ordering.band) i; tasks = same i }
  where
    alike : Alike t u
    alike = alike_through t s u (alike_back s t (ordering_alike s t a.ordering)) (ordering_alike s u b.ordering)

    same : t.tasks ≡ u.tasks
    same = same_tasks t.tasks u.tasks _ (a.ordering.tasks ∙ sym b.ordering.tasks) (λ j lt. agrees t u alike L a.ordering.ranks b.ordering.ranks (task_count t) 0 (omega arith) a.filled b.filled j lt (task_ranges t a.ordering.ranks j lt).rank_low)

pub not_both : (s t : TaskSet) (L k : ℕ) → Assigned s t L → Unfilled s L k → ⊥
not_both s t L k a b =
    let u = b.placed.0 in
    let o = b.placed.1 in
    further t u (alike_through t s u (alike_back s t (ordering_alike s t a.ordering)) (ordering_alike s u o)) L a.ordering.ranks o.ranks 0 k b.low (omega (arith, b.high, (ordering_alike s t a.ordering).count)) a.filled b.placed.2 b.placed.3

pub one_rank : (s : TaskSet) (L k m : ℕ) → Unfilled s L k → Unfilled s L m → k ≡ m
one_rank s L k m a b = go (cases_eq k m) (cases_lt k m)
  where
    below : (x y : ℕ) → x < y → Unfilled s L x → Unfilled s L y → ⊥
    below x y lt v w =
        let t = v.placed.0 in
        let p = v.placed.1 in
        let u = w.placed.0 in
        let o = w.placed.1 in
        further t u (alike_through t s u (alike_back s t (ordering_alike s t p)) (ordering_alike s u o)) L p.ranks o.ranks x y lt (omega (arith, w.high, (ordering_alike s t p).count)) v.placed.2 w.placed.2 w.placed.3

    go : (k ≡ m) ⊎ (k ≡ m → ⊥) → (k < m) ⊎ (m ≤ k) → k ≡ m
    go (inl e) h = e
    go (inr ne) (inl lt) = absurd (below k m lt a b)
    go (inr ne) (inr le) = absurd (below m k (omega (arith, ne)) b a)
