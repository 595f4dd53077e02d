use Rattle.std.proofs.Common.{◌≡◌, ℕ, ◌<◌, ◌++◌, length, drop, replicate, get_or, subst, arith}
use Rattle.table.specs.Content.{sporadic}
use Rattle.priority.specs.Exchange.{exchange}
use Rattle.priority.proofs.Rooms.{all_exchanged}
use Rattle.priority.proofs.ranking.exchanged_tasks.Goals as goal

pub returns-clause-front : goal.returns-clause-front
returns-clause-front c =
    let x = c.args.first in
    let y = c.args.second in
    let tasks = c.args.tasks.now in
    let d = c.index-tasks-0.result in
    let room = c.loop-task.task-items in
    let rest = drop (length tasks) (replicate 24 d) in
    all_exchanged x y d tasks rest room c.loop-task-test.array_long c.requires.few
    (subst (λ front. (k : ℕ) → k < 24 → sporadic (get_or room k d) ≡ exchange x y (sporadic (get_or (front ++ rest) k d))) c.copy_from_slice.ensures.after (λ k h. (c.loop-task.invariant k d).0 (omega (arith, h, c.loop-task-test.false))))
