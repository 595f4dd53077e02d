use Rattle.std.proofs.Common.{◌≡◌, ℕ, max, sym, ap, ◌∙◌, arith, rules, tests}
use Rattle.std.specs.List.{fold, range_with_len}
use Rattle.std.specs.Option.{unwrap_or}
use Rattle.std.proofs.lemmas.Iterator.{YieldsList-from_map, YieldsList-from_range}
use Rattle.std.proofs.lemmas.Iterator.Consumers.{reduce_from_yields_List}
use Rattle.std.proofs.lemmas.List.Folds.{max_of_map}
use Rattle.table.specs.Model.{content}
use Rattle.table.specs.declared.kinds.Mode.TheVariants.{NonPreemptive}
use Rattle.theory.specs.Course.{blocking_in}
use Rattle.courses.specs.Courses.{block_at}
use Rattle.courses.proofs.Blocks.{longest_is}
use Rattle.courses.proofs.lead.blocking.Setting.longest.Goals as goal

pub returns-in-NonPreemptive : goal.returns-in-NonPreemptive
returns-in-NonPreemptive g c =
    let at = c.args.self.now in
    let s = content at.table.now in
    let o = g.P.Policy.meaning at.policy.now s in
    let n = c.count.result in
    let h : ℕ → ℕ = λ j. unwrap_or (block_at s o at.task at.offset j) 0 in
    let held : s.mode ≡ NonPreemptive = cc in
    c.unwrap_or.ensures
    ∙ ap (λ r. unwrap_or r 0) (reduce_from_yields_List _ c.map.result _ c.max.ensures.ran (YieldsList-from_map _ h (YieldsList-from_range 0 n n (cc) (omega arith)) c.map.ensures.closure (λ x b q k. search (rules, tests))))
    ∙ max_of_map h (range_with_len 0 n)
    ∙ ap (λ m. fold (λ x j. max x (h j)) 0 (range_with_len 0 m)) c.count.ensures
    ∙ longest_is s o at.task at.offset
    ∙ sym (ap (λ m. blocking_in m s o at.task at.offset) held)
