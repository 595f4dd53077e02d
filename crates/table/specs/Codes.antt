-- The numbers that a table file gives to modes and policies, and which case a number stands for.
use Rattle.std.specs.Prelude.{◌≡◌, ℕ, cond, Some, None, Option, Result, MatchResult, ◌==◌}
use Rattle.table.specs.declared.kinds.Mode.{Mode}
use Rattle.table.specs.declared.kinds.Mode.TheVariants.{NonPreemptive, Preemptive}
use Rattle.table.specs.declared.kinds.PolicyCode.{PolicyCode}
use Rattle.table.specs.declared.kinds.PolicyCode.TheVariants.{Fixed, Deadline, Arrival, Bands}
use Rattle.table.specs.declared.kinds.UnknownCode.{UnknownCode}

abbrev pub mode_code : Mode → ℕ
mode_code NonPreemptive = 0
mode_code Preemptive = 1

abbrev pub policy_code : PolicyCode → ℕ
policy_code Fixed = 1
policy_code Deadline = 2
policy_code Arrival = 3
policy_code Bands = 4

-- the case of a number, where it has one
abbrev pub mode_coded : ℕ → Option Mode
mode_coded n = cond (n == 0) (Some NonPreemptive) (cond (n == 1) (Some Preemptive) None)

abbrev pub policy_coded : ℕ → Option PolicyCode
policy_coded n = cond (n == 1) (Some Fixed) (cond (n == 2) (Some Deadline) (cond (n == 3) (Some Arrival) (cond (n == 4) (Some Bands) None)))

-- the result is the case that `coded` has for the byte, or an error with the byte where it has none
abbrev pub Decodes : {X : Type 0} → (ℕ → Option X) → ℕ → Result X UnknownCode → Type 0
Decodes coded code r = MatchResult r (λ x. coded code ≡ Some x) (λ e. (coded code ≡ None) × (e.0 ≡ code))
