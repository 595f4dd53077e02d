use Rattle.std.proofs.Common.{arith}
use Rattle.analysis.proofs.Growth.{work_mono}
use Rattle.analysis.proofs.lanes.all.climb.Goals as goal

pub returns-then-next-from-2 : goal.returns-then-next-from-2
returns-then-next-from-2 c v low covers =
    let below = work_mono c.args.lanes.now c.up.t v (c.up.invariant.1 v low covers) in
    omega (arith, below, covers, c.work-next.ensures, c.if-next-from-2.true, c.from-in-up.ensures)

pub up-preserved : goal.up-preserved
up-preserved c = (
  omega (arith, c.up.invariant.0, c.if-next-from.false, c.from.ensures),
  λ v low covers.
      let below = work_mono c.args.lanes.now c.up.t v (c.up.invariant.1 v low covers) in
      omega (arith, below, covers, c.work-next.ensures),
)
