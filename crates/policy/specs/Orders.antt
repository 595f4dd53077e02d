-- The orders of the shipped policies, and of bands over any two orders.
use Rattle.std.specs.Prelude.{ℕ, Bool, true, false, cond, ℤ, pos, ◌+ℤ◌, ◌-ℤ◌, ◌==◌, int_le, int_lt, nat_lt}
use Rattle.table.specs.Rules.{TaskSet, task_at}
use Rattle.policy.specs.Order.{Order}
use Rattle.policy.specs.declared.job.Reach.TheVariants.{Always, Never, Within}

-- Fixed: the lower rank is always ahead
abbrev pub fixed_order : TaskSet → Order
fixed_order s = record {
  ahead = λ x y. cond (x.task == y.task) (int_lt x.release y.release) (nat_lt (task_at s x.task).rank (task_at s y.task).rank);
  reach = λ i j. cond (nat_lt (task_at s j).rank (task_at s i).rank) Always Never;
}

-- of two keys the smaller is ahead, and a tie goes to the lower task number
abbrev pub key_ahead : ℕ → ℤ → ℕ → ℤ → Bool
key_ahead i u j v = cond (nat_lt i j) (int_le u v) (int_lt u v)

-- how much later than a job of i, which adds m, a job of j, which adds n, may be released and still have the key ahead
abbrev pub key_reach : ℕ → ℕ → ℕ → ℕ → ℤ
key_reach i m j n = (pos m -ℤ pos n) -ℤ pos (cond (nat_lt i j) 1 0)

-- the key of a job is its release plus a constant of its task
abbrev pub keyed_order : (ℕ → ℕ) → Order
keyed_order offset = record {
  ahead = λ x y. key_ahead x.task (x.release +ℤ pos (offset x.task)) y.task (y.release +ℤ pos (offset y.task));
  reach = λ i j. Within (key_reach i (offset i) j (offset j));
}

-- Deadline: the earlier absolute deadline is ahead
abbrev pub deadline_order : TaskSet → Order
deadline_order s = keyed_order (λ i. (task_at s i).deadline)

-- Arrival: the earlier release is ahead
abbrev pub arrival_order : Order
arrival_order = keyed_order (λ i. 0)

-- Bands: tasks numbered below k are ahead of the rest; the first order is theirs, the second that of the rest
abbrev pub bands_order : ℕ → Order → Order → Order
bands_order k first second = record {
  ahead = λ x y. cond (nat_lt x.task k) (cond (nat_lt y.task k) (first.ahead x y) true) (cond (nat_lt y.task k) false (second.ahead x y));
  reach = λ i j. cond (nat_lt i k) (cond (nat_lt j k) (first.reach i j) Never) (cond (nat_lt j k) Always (second.reach i j));
}
