use Rattle.std.proofs.Common.{rules, tests, sym, ◌∙◌}
use Rattle.std.proofs.lemmas.Iterator.{YieldsList-from_slice}
use Rattle.std.proofs.lemmas.Iterator.Search.{all_from_yields_List}
use Rattle.std.proofs.lemmas.List.Folds.{list_all-map}
use Rattle.table.specs.Content.{sporadic}
use Rattle.table.specs.Sporadic.{task_in_range}
use Rattle.table.proofs.checked.build.tasks_in_range.Goals as goal

pub returns : goal.returns
returns c =
    all_from_yields_List (λ t. task_in_range c.args.count (sporadic t)) _ _ c.all.result c.all.ensures.ran (YieldsList-from_slice c.args.tasks.now cc) (λ x b q k. search (rules, tests))
    ∙ sym (list_all-map (task_in_range c.args.count) sporadic c.args.tasks.now)
