-- The words that a report prints for modes and policies, as the bytes of their letters.
use Rattle.std.specs.Prelude.{ℕ, List, codes}
use Rattle.table.specs.declared.kinds.Mode.{Mode}
use Rattle.table.specs.declared.kinds.Mode.TheVariants.{NonPreemptive, Preemptive}
use Rattle.table.specs.declared.kinds.PolicyCode.{PolicyCode}
use Rattle.table.specs.declared.kinds.PolicyCode.TheVariants.{Fixed, Deadline, Arrival, Bands}

abbrev pub mode_word : Mode → List ℕ
mode_word NonPreemptive = codes "holding"
mode_word Preemptive = codes "displacing"

abbrev pub policy_word : PolicyCode → List ℕ
policy_word Fixed = codes "fixed"
policy_word Deadline = codes "deadline"
policy_word Arrival = codes "arrival"
policy_word Bands = codes "bands"
