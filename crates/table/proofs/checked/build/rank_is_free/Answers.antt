use Rattle.std.proofs.Common.{rules, tests, not, eqb, sym, ◌∙◌}
use Rattle.std.proofs.lemmas.Iterator.{YieldsList-from_slice}
use Rattle.std.proofs.lemmas.Iterator.Search.{all_from_yields_List}
use Rattle.std.proofs.lemmas.List.Folds.{list_all-map}
use Rattle.table.specs.Content.{sporadic}
use Rattle.table.proofs.checked.build.rank_is_free.Goals as goal

pub returns : goal.returns
returns c =
    all_from_yields_List (λ t. not (eqb t.rank c.args.rank)) _ _ c.all.result c.all.ensures.ran (YieldsList-from_slice c.args.tasks.now cc) (λ x b q k. search (rules, tests))
    ∙ sym (list_all-map (λ t. not (eqb t.rank c.args.rank)) sporadic c.args.tasks.now)
