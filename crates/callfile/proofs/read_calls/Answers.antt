use Rattle.std.proofs.Common.{◌≡◌, ◌≤◌, [], ◌∷◌, length, take, set, sym, refl, ap, ◌∙◌, arith, rules, tests, length-append, map-id}
use Rattle.std.proofs.lemmas.Iterator.{YieldsList-from_slice}
use Rattle.std.proofs.lemmas.Iterator.Consumers.{YieldsList-from_filter_map, YieldsList-so_far, YieldsList-end}
use Rattle.std.proofs.lemmas.List.{set-get_or, length-take}
use Rattle.callfile.specs.Said.{call_said, calls_said, laid_over, unmade}
use Rattle.callfile.proofs.Laying.{calls_said_is, laid_none, laid_snoc, laid_take}
use Rattle.callfile.proofs.read_calls.Goals as goal

pub loop-count-init : goal.loop-count-init
loop-count-init c = record { laid = sym (laid_none c.args.steps.now); places = refl }

pub loop-count-preserved : goal.loop-count-preserved
loop-count-preserved c =
    let inv = c.loop-count.invariant in
    let said = c.loop-count.yielded in
    let call = c.in-Some.call in
    record {
      laid = sym (laid_snoc said call c.args.steps.now ∙ ap (λ ps. set ps (length said) (unmade call)) (sym inv.laid) ∙ ap (λ k. set c.loop-count.steps k (unmade call)) (sym inv.places));
      places = omega (arith, inv.places, length-append said (call ∷ []));
    }

pub returns-in_default : goal.returns-in_default
returns-in_default c =
    let inv = c.loop-count.invariant in
    let text = c.args.text.now in
    let before = c.args.steps.now in
    let all = YieldsList-end (YieldsList-from_filter_map _ call_said (YieldsList-from_slice text cc) c.filter_map-calls.ensures.closure (λ x r q k. search (rules, tests))) c.loop-count.yielded _ c.loop-count.yielded_by _ _ c.in_default.is c.next.ensures.steps in
    let said : c.loop-count.yielded ≡ calls_said text = sym (map-id c.loop-count.yielded) ∙ all.0 ∙ calls_said_is text in
    let many = ap length said in
    record {
      steps = set-get_or c.loop-count.steps c.loop-count.count _ ∙ inv.laid ∙ ap (λ es. laid_over es before) said;
      count = omega (arith, inv.places, many, c.loop-count-test.true);
    }

pub returns : goal.returns
returns c =
    let inv = c.loop-count.invariant in
    let text = c.args.text.now in
    let before = c.args.steps.now in
    let n = length c.loop-count.yielded in
    let so_far = YieldsList-so_far (YieldsList-from_filter_map _ call_said (YieldsList-from_slice text cc) c.filter_map-calls.ensures.closure (λ x r q k. search (rules, tests))) c.loop-count.yielded _ c.loop-count.yielded_by in
    let said : c.loop-count.yielded ≡ take n (calls_said text) = sym (map-id c.loop-count.yielded) ∙ so_far ∙ ap (take n) (calls_said_is text) in
    let end : length before ≤ n = omega (arith, inv.places, c.loop-count-test.false) in
    record { steps = inv.laid ∙ ap (λ es. laid_over es before) said ∙ laid_take n (calls_said text) before end; count = omega (arith, ap length said, length-take n (calls_said text), end, inv.places, c.loop-count.auto.count-end, c.loop-count.auto.steps) }
