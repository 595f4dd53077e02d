-- The ranges that the rules of a table give, as plain facts about each task.
use Rattle.std.proofs.Common.{◌≡◌, ℕ, zero, suc, ◌*◌, ◌<◌, ◌≤◌, true, not, ◌&&◌, eqb, leb, List, [], ◌∷◌, length, get_or, sym, ap, le_of_suc-le-suc, not-suc-le-zero, arith}
use Rattle.std.proofs.lemmas.Bool.Decides.{nat_tests}
use Rattle.table.specs.Sporadic.{Sporadic, within, every, task_in_range, cost_in_range, period_in_range, deadline_in_range, rank_in_range, name_in_range}
use Rattle.table.specs.Rules.{TaskSet, Checked, follows_rules, task_count, task_at, band_in_range, rank_free, ranks_differ}
use Rattle.table.proofs.Every.{and_left, and_right, every_at}

pub record Ranges (n : ℕ) (t : Sporadic) : Type 0 where
  pub cost_low : 1 ≤ t.cost
  pub cost_high : t.cost ≤ 4096
  pub period_low : 1 ≤ t.period
  pub period_high : t.period ≤ 65535
  pub deadline_low : 1 ≤ t.deadline
  pub deadline_high : t.deadline ≤ 65535
  pub deadline_periods : t.deadline ≤ 8 * t.period
  pub rank_low : 1 ≤ t.rank
  pub rank_high : t.rank ≤ n
  pub name_good : name_in_range t.name ≡ true

pub within_facts : (low high x : ℕ) → within low high x ≡ true → (low ≤ x) × (x ≤ high)
within_facts low high x h = (grind (arith, nat_tests), grind (arith, nat_tests))

ranges : (n : ℕ) (t : Sporadic) → task_in_range n t ≡ true → Ranges n t
ranges n t h =
    let cost = and_left (cost_in_range t.cost) (period_in_range t.period && (deadline_in_range t.period t.deadline && (rank_in_range n t.rank && name_in_range t.name))) h in
    let h₁ = and_right (cost_in_range t.cost) (period_in_range t.period && (deadline_in_range t.period t.deadline && (rank_in_range n t.rank && name_in_range t.name))) h in
    let period = and_left (period_in_range t.period) (deadline_in_range t.period t.deadline && (rank_in_range n t.rank && name_in_range t.name)) h₁ in
    let h₂ = and_right (period_in_range t.period) (deadline_in_range t.period t.deadline && (rank_in_range n t.rank && name_in_range t.name)) h₁ in
    let due = and_left (deadline_in_range t.period t.deadline) (rank_in_range n t.rank && name_in_range t.name) h₂ in
    let h₃ = and_right (deadline_in_range t.period t.deadline) (rank_in_range n t.rank && name_in_range t.name) h₂ in
    let rank = and_left (rank_in_range n t.rank) (name_in_range t.name) h₃ in
    let name = and_right (rank_in_range n t.rank) (name_in_range t.name) h₃ in
    let due₁ = and_left (within 1 65535 t.deadline) (leb t.deadline (8 * t.period)) due in
    let due₂ : t.deadline ≤ 8 * t.period = grind (arith, nat_tests, and_right (within 1 65535 t.deadline) (leb t.deadline (8 * t.period)) due) in
    let c = within_facts 1 4096 t.cost cost in
    let p = within_facts 1 65535 t.period period in
    let d = within_facts 1 65535 t.deadline due₁ in
    let r = within_facts 1 n t.rank rank in
    record { cost_low = c.0; cost_high = c.1; period_low = p.0; period_high = p.1; deadline_low = d.0; deadline_high = d.1; deadline_periods = due₂; rank_low = r.0; rank_high = r.1; name_good = name }

module _ (s : TaskSet) (checked : Checked s) where
  after_count : (band_in_range s.policy (task_count s) s.band && (every (task_in_range (task_count s)) s.tasks && ranks_differ s.tasks)) ≡ true
  unfolding follows_rules
  after_count = and_right (within 1 24 (task_count s)) _ checked

  pub count_ranges : (1 ≤ task_count s) × (task_count s ≤ 24)
  unfolding follows_rules
  count_ranges = within_facts 1 24 (task_count s) (and_left (within 1 24 (task_count s)) _ checked)

  pub band_good : band_in_range s.policy (task_count s) s.band ≡ true
  band_good = and_left (band_in_range s.policy (task_count s) s.band) (every (task_in_range (task_count s)) s.tasks && ranks_differ s.tasks) after_count

  tasks_good : (every (task_in_range (task_count s)) s.tasks && ranks_differ s.tasks) ≡ true
  tasks_good = and_right (band_in_range s.policy (task_count s) s.band) (every (task_in_range (task_count s)) s.tasks && ranks_differ s.tasks) after_count

  -- every range of the task of a number
  pub task_ranges : (i : ℕ) → i < task_count s → Ranges (task_count s) (task_at s i)
  task_ranges i h = ranges (task_count s) (task_at s i) (every_at (task_in_range (task_count s)) s.tasks i _ h (and_left (every (task_in_range (task_count s)) s.tasks) (ranks_differ s.tasks) tasks_good))

  -- two tasks of one rank are one
  pub ranks_apart : (i j : ℕ) → i < task_count s → j < task_count s → (task_at s i).rank ≡ (task_at s j).rank → i ≡ j
  ranks_apart i j hi hj same = apart s.tasks i j _ hi hj (and_right (every (task_in_range (task_count s)) s.tasks) (ranks_differ s.tasks) tasks_good) same
    where
      taken : (ts : List Sporadic) (k : ℕ) (d : Sporadic) (rank : ℕ) → k < length ts → rank_free rank ts ≡ true → (get_or ts k d).rank ≡ rank → ⊥
      taken ts k d rank h free e =
          let other : not (eqb (get_or ts k d).rank rank) ≡ true = every_at (λ (t : Sporadic). not (eqb t.rank rank)) ts k d h free in
          let z : ◌≡◌ {A = ℕ} 0 1 = grind (arith, nat_tests) in omega arith

      apart : (ts : List Sporadic) (a b : ℕ) (d : Sporadic) → a < length ts → b < length ts → ranks_differ ts ≡ true → (get_or ts a d).rank ≡ (get_or ts b d).rank → a ≡ b
      apart [] a b d ha hb r e = absurd (not-suc-le-zero ha)
      apart (t ∷ ts) zero zero d ha hb r e = ap (λ (x : ℕ). x) (omega arith)
      apart (t ∷ ts) zero (suc b) d ha hb r e = absurd (taken ts b d t.rank (le_of_suc-le-suc hb) (and_left (rank_free t.rank ts) (ranks_differ ts) r) (sym e))
      apart (t ∷ ts) (suc a) zero d ha hb r e = absurd (taken ts a d t.rank (le_of_suc-le-suc ha) (and_left (rank_free t.rank ts) (ranks_differ ts) r) e)
      apart (t ∷ ts) (suc a) (suc b) d ha hb r e = ap suc (apart ts a b d (le_of_suc-le-suc ha) (le_of_suc-le-suc hb) (and_right (rank_free t.rank ts) (ranks_differ ts) r) e)
