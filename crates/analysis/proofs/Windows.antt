-- Windows over lanes: lanes set to an offset, and how their work grows with time and offset.
use Rattle.std.proofs.Common.{◌≡◌, ℕ, ◌+◌, ◌-◌, ◌*◌, ◌/◌, ◌<◌, ◌≤◌, Bool, true, false, cond, ltb, leb, List, [], ◌∷◌, map, length, sym, refl, ap, ◌∙◌, ap₂, mul-le-mul_right, mul-le-mul, arith}
use Rattle.std.proofs.lemmas.Bool.Decides.{nat_tests}
use Rattle.std.proofs.lemmas.List.{get_or-map}
use lib.ListN.{length-map}
use Rattle.theory.specs.LeastSolution.{LeastSolution}
use Rattle.theory.specs.Sums.{sum_below, max_below}
use Rattle.analysis.specs.Lanes.{no_lane, lane_at, lane_jobs, lanes_work, lane_limit, limited, lanes_block}
use Rattle.analysis.specs.Own.{own_work, work_in, window_work}
use Rattle.analysis.specs.declared.lanes.Lane.{Lane}
use Rattle.analysis.specs.declared.window.Own.{Own}
use Rattle.table.specs.declared.kinds.Mode.{Mode}
use Rattle.table.specs.declared.kinds.Mode.TheVariants.{NonPreemptive, Preemptive}
use Rattle.theory.proofs.Sums.{sum_mono, sum_cong, max_cong}
use Rattle.analysis.proofs.Growth.{div_mono, work_mono}

-- the first number that covers its own work is the least solution
pub covers_solves : (W : ℕ → ℕ) → ((t v : ℕ) → t ≤ v → W t ≤ W v) → (t : ℕ) → 1 ≤ t → 1 ≤ W t → W t ≤ t → ((v : ℕ) → 1 ≤ v → W v ≤ v → t ≤ v) → LeastSolution 1 W t
covers_solves W mono t low some covers first =
    let back : t ≤ W t = first (W t) some (mono (W t) t covers) in
    record { from = low; solves = omega arith; least = λ v from solves. first v from (omega (arith, solves)) }

module _ (a : ℕ) (ls : List Lane) where
  pub limited_at : (j : ℕ) → j < length ls → lane_at (map (limited a) ls) j ≡ limited a (lane_at ls j)
  limited_at j h = get_or-map (limited a) ls j no_lane no_lane h

  -- the work of lanes at an offset, by the lanes themselves
  pub limited_work : (t : ℕ) → lanes_work (map (limited a) ls) t ≡ sum_below (length ls) (λ j. lane_jobs (limited a (lane_at ls j)) t * (lane_at ls j).cost)
  limited_work t =
      ap (λ n. sum_below n (λ j. lane_jobs (lane_at (map (limited a) ls) j) t * (lane_at (map (limited a) ls) j).cost)) (length-map ls (limited a))
      ∙ sum_cong (length ls) (λ j. lane_jobs (lane_at (map (limited a) ls) j) t * (lane_at (map (limited a) ls) j).cost) (λ j. lane_jobs (limited a (lane_at ls j)) t * (lane_at ls j).cost) (λ j h. ap (λ (l : Lane). lane_jobs l t * l.cost) (limited_at j h))

  pub limited_block : (b : ℕ) → lanes_block (map (limited a) ls) b ≡ lanes_block ls b
  limited_block b =
      ap (λ n. max_below n (λ j. cond (ltb (b + (lane_at (map (limited a) ls) j).lead + 1) 100000) ((lane_at (map (limited a) ls) j).cost - 1) 0)) (length-map ls (limited a))
      ∙ max_cong (length ls) (λ j. cond (ltb (b + (lane_at (map (limited a) ls) j).lead + 1) 100000) ((lane_at (map (limited a) ls) j).cost - 1) 0) (λ j. cond (ltb (b + (lane_at ls j).lead + 1) 100000) ((lane_at ls j).cost - 1) 0) (λ j h. ap (λ (l : Lane). cond (ltb (b + l.lead + 1) 100000) (l.cost - 1) 0) (limited_at j h))

-- setting lanes twice is setting them once
pub limited_twice : (a b : ℕ) (ls : List Lane) → map (limited b) (map (limited a) ls) ≡ map (limited b) ls
limited_twice a b [] = refl
limited_twice a b (l ∷ ls) = ap (λ ys. limited b l ∷ ys) (limited_twice a b ls)

pub limit_mono : (l : Lane) (a b : ℕ) → a ≤ b → lane_limit l a ≤ lane_limit l b
limit_mono l a b h =
    let grows = div_mono l.period (a + l.lead - 100000) (b + l.lead - 100000) l.period_low (omega arith) in
    grind (arith, nat_tests, grows)

-- a later offset has at least as much work ahead of it
pub offset_mono : (ls : List Lane) (a b t : ℕ) → a ≤ b → lanes_work (map (limited a) ls) t ≤ lanes_work (map (limited b) ls) t
offset_mono ls a b t h =
    let one : sum_below (length ls) (λ j. lane_jobs (limited a (lane_at ls j)) t * (lane_at ls j).cost) ≤ sum_below (length ls) (λ j. lane_jobs (limited b (lane_at ls j)) t * (lane_at ls j).cost) = sum_mono (length ls) (λ j. lane_jobs (limited a (lane_at ls j)) t * (lane_at ls j).cost) (λ j. lane_jobs (limited b (lane_at ls j)) t * (lane_at ls j).cost) (λ j k. mul-le-mul_right (lane_at ls j).cost (jobs_more j k)) in
    omega (arith, one, limited_work a ls t, limited_work b ls t)
  where
    jobs_more : (j : ℕ) → j < length ls → lane_jobs (limited a (lane_at ls j)) t ≤ lane_jobs (limited b (lane_at ls j)) t
    jobs_more j k = omega (arith, limit_mono (lane_at ls j) a b h)

-- the own work of a window is at least 1
pub own_positive : (w : Own) (ls : List Lane) (a : ℕ) → 1 ≤ own_work w ls a
own_positive w ls a = go w.mode
  where
    go : (m : Mode) → 1 ≤ work_in m w.cost w.period ls a
    go Preemptive = omega (arith, w.cost_low, mul-le-mul {n₁ = 1} {m₁ = w.cost} {n₂ = 1 + a / w.period} {m₂ = w.cost} (omega arith) (omega arith))
    go NonPreemptive = omega arith

-- what a climb from a sound start gives is the least solution of the window
module _ (w : Own) (ls : List Lane) (a : ℕ) where
  window_mono : (t v : ℕ) → t ≤ v → window_work w ls a t ≤ window_work w ls a v
  window_mono t v h = omega (arith, work_mono (map (limited a) ls) t v h)

  pub solved_window : (t : ℕ) → 1 ≤ t → window_work w ls a t ≤ t → ((v : ℕ) → 1 ≤ v → window_work w ls a v ≤ v → t ≤ v) → LeastSolution 1 (window_work w ls a) t
  solved_window t low covers first = covers_solves (window_work w ls a) window_mono t low (omega (arith, own_positive w ls a)) covers first

-- climbing may begin at the last solution unless the own work has fallen
pub restart_low : (work last_work at start : ℕ) (W : ℕ → ℕ) → start ≡ cond (ltb work last_work) 1 at → 1 ≤ at → ((v : ℕ) → 1 ≤ v → last_work + W v ≤ v → at ≤ v) → (1 ≤ start) × ((v : ℕ) → 1 ≤ v → work + W v ≤ v → start ≤ v)
restart_low work last_work at start W is low first = go (ltb work last_work) refl
  where
    go : (b : Bool) → ltb work last_work ≡ b → (1 ≤ start) × ((v : ℕ) → 1 ≤ v → work + W v ≤ v → start ≤ v)
    go true e =
        let one : start ≡ 1 = is ∙ ap (λ x. cond x 1 at) e in
        (omega (arith, one), λ v from covers. omega (arith, one))
    go false e =
        let same : start ≡ at = is ∙ ap (λ x. cond x 1 at) e in
        let more : last_work ≤ work = grind (arith, nat_tests) in
        (omega (arith, same), λ v from covers. omega (arith, same, first v from (omega arith)))

pub least_same : (low t : ℕ) (W V : ℕ → ℕ) → ((v : ℕ) → W v ≡ V v) → LeastSolution low W t → LeastSolution low V t
least_same low t W V same s = record { from = s.from; solves = s.solves ∙ same t; least = λ v from solves. s.least v from (solves ∙ sym (same v)) }

-- windows see lanes only as they are set to offsets
pub same_window : (w : Own) (ls ms : List Lane) → ((b : ℕ) → map (limited b) ls ≡ map (limited b) ms) → (a v : ℕ) → window_work w ls a v ≡ window_work w ms a v
same_window w ls ms same a v = ap₂ ◌+◌ (own w.mode) (ap (λ ys. lanes_work ys v) (same a))
  where
    block : lanes_block ls a ≡ lanes_block ms a
    block = sym (limited_block a ls a) ∙ ap (λ ys. lanes_block ys a) (same a) ∙ limited_block a ms a

    own : (m : Mode) → work_in m w.cost w.period ls a ≡ work_in m w.cost w.period ms a
    own Preemptive = refl
    own NonPreemptive = ap (λ b. 1 + (b + a / w.period * w.cost)) block

-- a least solution up to a cap is one of any function that agrees up to there
pub least_upto : (low t cap : ℕ) (W V : ℕ → ℕ) → ((v : ℕ) → v ≤ cap → W v ≡ V v) → t ≤ cap → LeastSolution low W t → LeastSolution low V t
least_upto low t cap W V same inside s = record {
  from = s.from;
  solves = s.solves ∙ same t inside;
  least = λ v from fixed. go v from fixed (leb v cap) refl;
}
  where
    go : (v : ℕ) → low ≤ v → v ≡ V v → (b : Bool) → leb v cap ≡ b → t ≤ v
    go v from fixed true e = let small : v ≤ cap = grind (arith, nat_tests) in s.least v from (fixed ∙ sym (same v small))
    go v from fixed false e = let big : cap < v = grind (arith, nat_tests) in omega arith
