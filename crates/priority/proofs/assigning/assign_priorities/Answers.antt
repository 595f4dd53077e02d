use Rattle.std.proofs.Common.{◌≡◌, Some, refl, subst, inr, rules}
use Rattle.std.proofs.lemmas.Result.{err_from_is_err_and}
use Rattle.table.specs.Model.{content}
use Rattle.analysis.specs.Busy.{Busy}
use Rattle.priority.proofs.Fitting.{filled_admitted}
use Rattle.priority.proofs.InVain.{unfilled}
use Rattle.priority.proofs.assigning.assign_priorities.Goals as goal

pub returns-in_err-place : goal.returns-in_err-place
returns-in_err-place c =
    let p = err_from_is_err_and c.from_residual-in_err-place.result c.from_residual-in_err-place.ensures.1 in
    let L = c.in_ok-ok_or.field-0 in
    let is : c.busy_period.result ≡ Some L = search rules in
    let found = subst (λ r. Busy (content c.args.table.now) r) is c.busy_period.ensures in
    let done = c.in_err-place.ensures L found in
    let at = done.4 in
    rw (p.1, p.2) (refl, inr (L, done.0, done.1, found.0, found.1, unfilled (content c.args.table.now) L done.0 found.1 done.2 done.3 at.0 at.1 at.2 at.3))

pub returns : goal.returns
returns c =
    let L = c.in_ok-ok_or.field-0 in
    let is : c.busy_period.result ≡ Some L = search rules in
    let found = subst (λ r. Busy (content c.args.table.now) r) is c.busy_period.ensures in
    let u = content c.in_ok-place.field-0 in
    let done = c.in_ok-place.ensures L found in
    (L, found.0, found.1, record { ordering = done.0; filled = done.1; admitted = filled_admitted u L done.0.ranks done.1 })
