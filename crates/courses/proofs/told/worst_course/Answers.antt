use Rattle.std.proofs.Common.{◌≡◌, ℕ, ◌<◌, Bool, true, false, cond, ◌&&◌, leb, ltb, None, Some, Ok, Option, sym, ap, ◌∙◌, ap₂, arith, rules}
use Rattle.std.specs.Option.{MatchOption}
use Rattle.std.proofs.lemmas.Bool.Decides.{nat_tests}
use Rattle.table.specs.Model.{content}
use Rattle.table.specs.Rules.{TaskSet, task_at, task_count}
use Rattle.policy.specs.Order.{Order}
use Rattle.theory.specs.Course.{releases_at}
use Rattle.courses.specs.Courses.{Told, releases_by}
use Rattle.courses.specs.OneCourse.{Coursed}
use Rattle.courses.specs.declared.course.Course.{Course}
use Rattle.courses.proofs.told.worst_course.Goals as goal

-- what a course tells of a task of the table
told : (s : TaskSet) (o : Order) (i a j t : ℕ) (r : Option Course) (b : Bool) → Coursed s o i a (Ok r) → j < task_count s → MatchOption r (b ≡ false) (λ x. b ≡ (ltb j (task_count s) && releases_by x.lead x.task x.offset j (task_at s j).period t)) → Told s o i a j t (Ok b)
told s o i a j t None b (known, far) here is = (known, here, let late : leb 60000 a ≡ true = grind (arith, nat_tests) in is ∙ sym (ap (λ y. cond y false (releases_at s o i a j t)) late))
told s o i a j t (Some x) b (known, near, task, offset, course) here is = (
  known,
  here,
  let early : leb 60000 a ≡ false = grind (arith, nat_tests) in
      let inside : ltb j (task_count s) ≡ true = grind (arith, nat_tests) in
      is
      ∙ ap (λ y. y && releases_by x.lead x.task x.offset j (task_at s j).period t) inside
      ∙ course.told j t
      ∙ ap₂ (λ p q. releases_at s o p q j t) task offset
      ∙ sym (ap (λ y. cond y false (releases_at s o i a j t)) early),
)

weaken : {A : Type 0} (N : Type 0) {P Q : A → Type 0} → ((x : A) → P x → Q x) → (r : Option A) → MatchOption r N P → MatchOption r N Q
weaken N f None m = m
weaken N f (Some x) m = f x m

pub returns : goal.returns
returns g c =
    let s = content c.args.table.now in
    told s (g.P.Policy.meaning c.args.policy.now s) c.args.i c.args.a c.args.j c.args.t c.in_ok-course.course c.is_some_and.result c.in_ok-course.ensures (omega arith) (weaken _ (λ x p. search rules) c.in_ok-course.course c.is_some_and.ensures)
