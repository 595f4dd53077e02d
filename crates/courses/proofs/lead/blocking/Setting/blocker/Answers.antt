use Rattle.std.proofs.Common.{◌≡◌, ℕ, ◌<◌, ◌≤◌, None, Some, Option, sym, ap, ◌∙◌, subst, arith, rules, tests}
use Rattle.std.specs.Option.{MatchOption}
use Rattle.std.proofs.lemmas.Iterator.{first_from_Range}
use Rattle.table.specs.Model.{content}
use Rattle.table.specs.Rules.{TaskSet, task_count}
use Rattle.policy.specs.Order.{Order}
use Rattle.theory.specs.Course.{course_blocking}
use Rattle.courses.specs.Courses.{block_at, blocker_of}
use Rattle.courses.proofs.Blocks.{none_blocks, first_blocks}
use Rattle.courses.proofs.lead.blocking.Setting.blocker.Goals as goal

-- from what the search through the tasks found
found : (s : TaskSet) (o : Order) (i a m : ℕ) → m ≡ course_blocking s o i a → (m ≡ 0 → ⊥) → (r : Option ℕ) → MatchOption r ((k : ℕ) → 0 ≤ k → k < task_count s → block_at s o i a k ≡ Some m → ⊥) (λ j. (0 ≤ j) × (j < task_count s) × (block_at s o i a j ≡ Some m) × ((k : ℕ) → 0 ≤ k → k < j → block_at s o i a k ≡ Some m → ⊥)) → r ≡ blocker_of s o i a
found s o i a m is some None none = absurd (none_blocks s o i a (λ z. some (is ∙ z)) (λ k h e. none k (omega arith) h (e ∙ ap Some (sym is))))
found s o i a m is some (Some j) first = first_blocks s o i a j (λ z. some (is ∙ z)) first.1 (first.2 ∙ ap Some is) (λ k h e. first.3 k (omega arith) h (e ∙ ap Some (sym is)))

pub returns : goal.returns
returns g c =
    let at = c.args.self.now in
    let s = content at.table.now in
    let o = g.P.Policy.meaning at.policy.now s in
    let m = c.longest-longest.result in
    found s o at.task at.offset m c.longest-longest.ensures c.if-longest-eq0.false c.find.result
    (subst (λ n. MatchOption c.find.result ((k : ℕ) → 0 ≤ k → k < n → block_at s o at.task at.offset k ≡ Some m → ⊥) (λ j. (0 ≤ j) × (j < n) × (block_at s o at.task at.offset j ≡ Some m) × ((k : ℕ) → 0 ≤ k → k < j → block_at s o at.task at.offset k ≡ Some m → ⊥))) c.count.ensures
    (first_from_Range _ _ _ c.find.result (λ x. block_at s o at.task at.offset x ≡ Some m) (λ x. block_at s o at.task at.offset x ≡ Some m → ⊥) c.find.ensures.ran (λ x q called. search (rules, tests)) (λ x q called. search (rules, tests))))
