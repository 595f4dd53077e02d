use Rattle.std.proofs.Common.{◌≡◌, ◌+◌, ◌*◌, ◌≤◌, length, get_or, ◌∙◌, ap, arith, rules}
use Rattle.std.specs.List.{sum_by}
use Rattle.std.proofs.lemmas.List.Sums.{sum_by-le}
use Rattle.analysis.specs.Lanes.{no_lane, lane_jobs}
use Rattle.analysis.proofs.Growth.{share_small}
use Rattle.analysis.proofs.Listed.{sum_by-below}
use Rattle.analysis.proofs.lanes.all.work.Goals as goal

pub overflow_add-result : goal.overflow_add-result
overflow_add-result c =
    let ls = c.args.lanes.now in
    let total : c.sum.result ≡ sum_by (λ l. lane_jobs l (c.args.t) * l.cost) ls = search rules in
    let small : sum_by (λ l. lane_jobs l (c.args.t) * l.cost) ls ≤ length ls * 17592186044416 = sum_by-le (λ l. lane_jobs l (c.args.t) * l.cost) 17592186044416 ls (λ k d h. share_small (get_or ls k d) c.args.t (omega (arith, c.requires.short))) in
    search rules

pub returns : goal.returns
returns c =
    let ls = c.args.lanes.now in
    let total : c.sum.result ≡ sum_by (λ l. lane_jobs l (c.args.t) * l.cost) ls = search rules in
    ap (λ n. c.args.own + n) (total ∙ sum_by-below (λ l. lane_jobs l (c.args.t) * l.cost) no_lane ls)
