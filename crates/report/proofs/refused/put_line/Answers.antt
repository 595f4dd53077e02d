use Rattle.std.proofs.Common.{◌≤◌, rules, length, decimal, ap, ◌∙◌, arith, subst}
use Rattle.table.specs.Refusals.{refusal_number, refusal_place}
use Rattle.report.specs.RefusalText.{place_word, refusal_text}
use Rattle.report.specs.Written.{Written}
use Rattle.report.proofs.Pages.{then, reworded, settled}
use Rattle.report.proofs.RefusalLines.{line_length, number_length}
use Rattle.report.proofs.refused.put_line.Goals as goal

pub returns : goal.returns
returns c =
    let e = c.args.refusal in
    let number = decimal (refusal_number e) in
    let place = place_word (refusal_place e) in
    let line : Written c.new-page.result (refusal_text e) c.put_place.new.page = then c.word.ensures (then (reworded 32 number (ap decimal (c.from.ensures ∙ c.number.ensures)) c.number-2.ensures) (reworded 10 place (ap place_word c.place.ensures) c.put_place.ensures.written)) in
    let few : length place ≤ 20 = subst (λ p. length (place_word p) ≤ 20) c.place.ensures c.put_place.ensures.few in
    record {
      line = settled line (search rules) (search rules) (search rules) c.written.ensures;
      short = omega (arith, line_length number place, number_length e);
    }
