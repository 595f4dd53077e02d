use Rattle.std.proofs.Common.{Ok, Err, refl, arith}
use Rattle.std.proofs.lemmas.Result.{err_from_is_err_and}
use Rattle.table.specs.Model.{content}
use Rattle.tablefile.proofs.Files.{accepted_exactly, refused_exactly}
use Rattle.tablefile.proofs.whole.read_table.Goals as goal

pub returns-in_err-place : goal.returns-in_err-place
returns-in_err-place c =
    let p = err_from_is_err_and c.from_residual.result c.from_residual.ensures.1 in
    let why = c.in_err-place.field-0.0 in
    let exact = refused_exactly c.args.bytes.now (Err why) (content c.args.place.now) why c.in_err-place.ensures refl in
    rw (p.1, p.2) (record {
      format = (c.in_err-place.ensures, refl);
      only = exact.0;
      each = exact.1;
    })

pub returns : goal.returns
returns c =
    let exact = accepted_exactly c.args.bytes.now (Ok tt) (λ i. omega (arith, c.type_inv.bytes i)) (content c.in_ok-place.field-0) c.in_ok-place.ensures refl in
    record {
      format = c.in_ok-place.ensures;
      only = exact.0;
      each = exact.1;
    }
