use Rattle.std.proofs.Common.{◌≡◌, ℕ, ◌<◌, Some, None, Option, sym, refl, subst, arith, rules, tests}
use Rattle.std.specs.Option.{MatchOption}
use Rattle.table.specs.Model.{content}
use Rattle.table.specs.Rules.{TaskSet, task_count}
use Rattle.theory.specs.Machine.{State, start, play}
use Rattle.rehearsal.proofs.Searches.{first_mapped}
use Rattle.rehearsal.specs.Due.{due_of, DueFirst}
use Rattle.rehearsal.specs.declared.misses.Miss.{Miss}
use Rattle.rehearsal.proofs.playing.Playing.first_due.Goals as goal

found : (s : TaskSet) (st : State) (time n : ℕ) (r : Option Miss) → n ≡ task_count s
    → MatchOption r ((k : ℕ) → k < n → k < task_count s → due_of s st time k ≡ None) (λ m. (i : ℕ) × (i < n) × ((m.task ≡ i) × (m.time ≡ time) × (i < task_count s → due_of s st time i ≡ Some m.release)) × ((k : ℕ) → k < i → k < task_count s → due_of s st time k ≡ None)) → DueFirst s st time r
found s st time n None e none = λ j h. none j (subst (λ m. j < m) (sym e) h) h
found s st time n (Some m) e (i, inside, (is, at, due), none) =
    let known : i < task_count s = subst (λ m. i < m) e inside in
    subst (λ j. (j < task_count s) × (due_of s st time j ≡ Some m.release) × (m.time ≡ time) × ((k : ℕ) → k < j → due_of s st time k ≡ None)) (sym is) (known, due known, at, λ k h. none k h (omega (arith, h, known)))

pub returns : goal.returns
returns g c = λ calls h.
    let at = c.args.self.now in
    let s = content at.table.now in
    let st = play s (g.P.Policy.meaning at.run.policy s) start calls in
    let time = c.args.time in
    found s st time c.count.result c.find_map.result c.count.ensures
    (first_mapped c.count.result _ c.find_map.result (λ i m. (m.task ≡ i) × (m.time ≡ time) × (i < task_count s → due_of s st time i ≡ Some m.release)) (λ k. k < task_count s → due_of s st time k ≡ None) c.find_map.ensures.runs refl refl (λ a r q k. search rules) (λ x y k. search (rules, tests)) (λ x k. search (rules, tests)))
