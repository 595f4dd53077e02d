use Rattle.std.proofs.Common.{refl, arith}
use Rattle.planning.proofs.Answering.{answered}
use Rattle.planning.proofs.answer.Goals as goal

pub returns : goal.returns
returns c = answered c.args.input.now (λ i. omega (arith, c.type_inv.input i)) _ c.plan-planned.new.rows refl c.plan-planned.auto.rows c.args.out.now c.plan-planned.new.out c.tell.new.out c.plan-planned.result c.tell.result c.plan-planned.ensures c.tell.ensures
