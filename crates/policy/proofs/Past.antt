-- Tasks of any number, past the last one of a table too.
use Rattle.std.proofs.Common.{◌≡◌, ℕ, ◌≤◌, sym, ap, ⊎_elim, arith}
use Rattle.std.proofs.lemmas.Bool.Decides.{leb_tells}
use lib.ListN.{get_or-eq_default}
use Rattle.table.specs.Sporadic.{Sporadic}
use Rattle.table.specs.Rules.{TaskSet, Checked, task_count, task_at}
use Rattle.table.proofs.Ranges.{task_ranges}

pub deadline_past : (s : TaskSet) (i : ℕ) → task_count s ≤ i → 1 ≡ (task_at s i).deadline
deadline_past s i h = sym (ap (λ (t : Sporadic). t.deadline) (get_or-eq_default s.tasks _ {n = i} h))

pub deadline_small : (s : TaskSet) → Checked s → (i : ℕ) → (task_at s i).deadline ≤ 65535
deadline_small s checked i = ⊎_elim (λ past. omega (arith, deadline_past s i past.1)) (λ inside. (task_ranges s checked i inside.1).deadline_high) (leb_tells (task_count s) i)
