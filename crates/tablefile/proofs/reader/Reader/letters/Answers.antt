use Rattle.std.proofs.Common.{◌∙◌, arith}
use Rattle.std.proofs.lemmas.Result.{err_from_is_err_and}
use Rattle.tablefile.specs.Fields.{letter_at}
use Rattle.tablefile.proofs.Letters.{more, stops}
use Rattle.tablefile.proofs.reader.Reader.letters.Goals as goal

pub returns-in_err-letter-clause-value : goal.returns-in_err-letter-clause-value
returns-in_err-letter-clause-value c =
    let p = err_from_is_err_and c.from_residual.result c.from_residual.ensures.1 in
    let before = c.loop.invariant in
    rw (p.1, p.2) (stops c.args.self.now.src.now c.args.self.now.pos c.args.len c.loop.counter c.in_err-letter.field-0.0 c.loop-test.true (c.in_err-letter.ensures.value ∙ (λ j. letter_at (before.input j).now (before.place j))) before.read)

pub loop-preserved : goal.loop-preserved
loop-preserved c =
    let read = c.in_ok-letter.ensures in
    let before = c.loop.invariant in
    record {
      input = read.input ∙ before.input;
      place = omega (arith, read.place);
      read = more c.args.self.now.src.now c.args.self.now.pos c.args.len c.loop.counter _ c.loop-test.true (read.value ∙ (λ j. letter_at (before.input j).now (before.place j))) before.read;
    }
