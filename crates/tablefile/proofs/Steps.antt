-- What a record says, from what its fields said: the first ones are read, and one behind them may be refused.
use Rattle.std.proofs.Common.{◌≡◌, ℕ, ◌+◌, List, Ok, sym, ◌∙◌}
use Rattle.table.specs.Sporadic.{Sporadic}
use Rattle.table.specs.declared.kinds.Mode.{Mode}
use Rattle.table.specs.declared.kinds.PolicyCode.{PolicyCode}
use Rattle.tablefile.specs.Fields.{Read, ◌then◌, mark_at, policy_at, mode_at, count_at, band_at, cost_at, period_at, deadline_at, rank_at, name_at}
use Rattle.tablefile.specs.Format.{header_at, task_at}

module _ (s : List ℕ) (p : ℕ) {m : ℕ} where
  pub header_says : {policy : PolicyCode} {mode : Mode} {n : ℕ} {band : Read ℕ} → Ok m ≡ mark_at s p 0x4854 → Ok policy ≡ policy_at s (p + 2) → Ok mode ≡ mode_at s (p + 3) → Ok n ≡ count_at s (p + 4) → band ≡ band_at s (p + 5) policy n → (band then λ b. Ok (record { policy = policy; mode = mode; count = n; band = b })) ≡ header_at s p
  header_says {policy} {mode} {n} marked policy_read mode_read count_read band_read =
      (λ j. band_read j then λ b. Ok (record { policy = policy; mode = mode; count = n; band = b }))
      ∙ (λ j. marked j then λ _. policy_read j then λ policy. mode_read j then λ mode. count_read j then λ n. band_at s (p + 5) policy n then λ b. Ok (record { policy = policy; mode = mode; count = n; band = b }))

  pub task_says : (n : ℕ) (earlier : List Sporadic) {cost period : ℕ} {deadline rank : Read ℕ} {name : Read (List ℕ)} → Ok m ≡ mark_at s p 0x544B → Ok cost ≡ cost_at s (p + 2) → Ok period ≡ period_at s (p + 4) → deadline ≡ deadline_at s (p + 6) period → rank ≡ rank_at s (p + 8) n earlier → name_at s (p + 9) ≡ name → task_at s p n earlier ≡ (deadline then λ d. rank then λ r. name then λ b. Ok (record { cost = cost; period = period; deadline = d; rank = r; name = b }))
  task_says n earlier {cost} {period} marked cost_read period_read deadline_read rank_read name_read =
      (λ j. sym marked j then λ _. sym cost_read j then λ cost. sym period_read j then λ period. deadline_at s (p + 6) period then λ d. rank_at s (p + 8) n earlier then λ r. name_at s (p + 9) then λ b. Ok (record { cost = cost; period = period; deadline = d; rank = r; name = b }))
      ∙ (λ j. sym deadline_read j then λ d. sym rank_read j then λ r. name_read j then λ b. Ok (record { cost = cost; period = period; deadline = d; rank = r; name = b }))
