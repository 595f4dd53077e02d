use Rattle.std.proofs.Common.{rules, tests, ◌+◌, ◌-◌, map, length, take, drop, ◌∙◌}
use Rattle.std.proofs.lemmas.Iterator.{YieldsList-from_slice}
use Rattle.std.proofs.lemmas.Iterator.Consumers.{YieldsList-from_enumerate}
use Rattle.std.proofs.lemmas.Iterator.Search.{all_from_yields_List}
use Rattle.table.specs.Content.{sporadic}
use Rattle.table.specs.Rules.{rank_free}
use Rattle.table.proofs.Every.{ranks_along}
use Rattle.table.proofs.checked.build.ranks_differ.Goals as goal

pub returns : goal.returns
returns c =
    let ts = c.args.tasks.now in
    all_from_yields_List (λ p. rank_free p.1.rank (map sporadic (take (length ts - (p.0 + 1)) (drop (p.0 + 1) ts)))) _ _ c.all.result c.all.ensures.ran (YieldsList-from_enumerate (YieldsList-from_slice ts cc) cc) (λ x b q k. search (rules, tests))
    ∙ ranks_along ts
