use Rattle.std.proofs.Common.{arith}
use Rattle.tre_offline.proofs.LastingUpTo.{LastUpTo-none, LastUpTo-next}
use Rattle.tre_offline.proofs.lengths.longest_of.Goals as goal

pub loop-zone-init : goal.loop-zone-init
loop-zone-init c = (omega arith, LastUpTo-none _)

pub loop-zone-preserved : goal.loop-zone-preserved
loop-zone-preserved c = (
  omega (arith, c.loop-zone.invariant.0, c.longest_in.ensures.limit, c.max-most.ensures),
  LastUpTo-next c.zones-zone-items.result.now c.loop-zone.zone-index c.loop-zone.most
      c.longest_in.result c.max-most.result c.zone-item.result c.loop-zone-test.true c.zone-item.is
      c.loop-zone.invariant.1 c.longest_in.ensures.all c.max-most.ensures,
)
