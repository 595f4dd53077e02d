use Rattle.std.proofs.Common.{◌≡◌, true, [], ◌∷◌, refl, ap, ◌∙◌, lit≤}
use Rattle.table.specs.Rules.{follows_rules}
use Rattle.table.specs.Model.{fresh_task}
use Rattle.table.specs.declared.kinds.PolicyCode.TheVariants.{Fixed}
use Rattle.table.proofs.checked.Table.fresh.Goals as goal

kept : follows_rules Fixed 0 (fresh_task ∷ []) ≡ true
unfolding follows_rules
kept = refl

pub invariant_of-result : goal.invariant_of-result
invariant_of-result c = record { room = refl; few = lit≤ tt; rules = ap (λ t. follows_rules Fixed 0 (t ∷ [])) c.fresh.ensures ∙ kept }
