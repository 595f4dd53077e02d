-- What the two calls of a policy answer, from its order: no and Never outside the table, no outside the clock.
use Rattle.std.specs.Prelude.{ℕ, Bool, cond, not, ◌&&◌, ℤ, pos, negsuc, ◌==◌, int_le, nat_lt}
use Rattle.table.specs.Rules.{TaskSet, task_count}
use Rattle.policy.specs.Order.{Order}
use Rattle.policy.specs.declared.job.Job.{Job}
use Rattle.policy.specs.declared.job.Reach.{Reach}
use Rattle.policy.specs.declared.job.Reach.TheVariants.{Never, Within}

-- the ticks that calls may speak of: -1 to 4,000,000,000
abbrev pub on_clock : ℤ → Bool
on_clock r = int_le (negsuc 0) r && int_le r (pos 4000000000)

abbrev pub same_job : Job → Job → Bool
same_job x y = x.task == y.task && (int_le x.release y.release && int_le y.release x.release)

-- two different jobs of the table, on the clock
abbrev pub comparable : TaskSet → Job → Job → Bool
comparable s x y = (nat_lt x.task (task_count s) && nat_lt y.task (task_count s)) && ((on_clock x.release && on_clock y.release) && not (same_job x y))

abbrev pub ahead_answer : TaskSet → Order → Job → Job → Bool
ahead_answer s o x y = comparable s x y && o.ahead x y

abbrev pub reach_answer : TaskSet → Order → ℕ → ℕ → Reach
reach_answer s o i j = cond (nat_lt i (task_count s) && nat_lt j (task_count s)) (cond (i == j) (Within (pos 0)) (o.reach i j)) Never
