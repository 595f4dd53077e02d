use Rattle.std.proofs.Common.{◌≡◌, replicate, subst}
use Rattle.analysis.specs.Judged.{no_row}
use Rattle.planning.specs.Planned.{Planned}
use Rattle.capi.proofs.files.station_plan.Goals as goal

pub returns : goal.returns
returns c =
    let blank = c.default-rows.ensures in
    let is : c.default-rows.result ≡ no_row = λ k. record { response = blank.0 k; offset = blank.1.0 k; deadline = blank.1.1 k } in
    (c.plan.new.rows, c.plan.result, subst (λ row. Planned c.args.file.now (replicate 24 row) c.plan.new.rows c.args.out.now c.plan.new.out c.plan.result) is c.plan.ensures, c.from.ensures)
