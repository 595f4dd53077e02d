use Rattle.std.proofs.Common.{ℕ, ◌+◌, ◌-◌, cond, ltb, ap, ◌∙◌, rules, tests}
use Rattle.std.specs.Option.{unwrap_or}
use Rattle.std.proofs.lemmas.Iterator.{YieldsList-from_map, YieldsList-from_slice}
use Rattle.std.proofs.lemmas.Iterator.Consumers.{reduce_from_yields_List}
use Rattle.std.proofs.lemmas.List.Folds.{max_of_map}
use Rattle.analysis.specs.Lanes.{no_lane}
use Rattle.analysis.specs.declared.lanes.Lane.{Lane}
use Rattle.analysis.proofs.Listed.{fold_max-below}
use Rattle.analysis.proofs.lanes.all.blocking.Goals as goal

pub returns-clause-value : goal.returns-clause-value
returns-clause-value c =
    let ls = c.args.lanes.now in
    let block : Lane → ℕ = λ l. cond (ltb (c.args.a + l.lead + 1) 100000) (l.cost - 1) 0 in
    c.unwrap_or.ensures
    ∙ ap (λ o. unwrap_or o 0) (reduce_from_yields_List _ c.map.result _ c.max.ensures.ran (YieldsList-from_map _ block (YieldsList-from_slice ls cc) c.map.ensures.closure (λ x b q k. search (rules, tests))))
    ∙ max_of_map block ls
    ∙ fold_max-below block no_lane ls
