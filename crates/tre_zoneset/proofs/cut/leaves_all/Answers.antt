use Rattle.std.proofs.Common.{refl}
use Rattle.tre_zoneset.proofs.Cuts.{LeavesAll-none, LeavesAll-more, LeavesAll-all}
use Rattle.tre_zoneset.proofs.cut.leaves_all.Goals as goal

pub loop-zone-init : goal.loop-zone-init
loop-zone-init c = LeavesAll-none c.args.cut.now

pub loop-zone-preserved : goal.loop-zone-preserved
loop-zone-preserved c =
    LeavesAll-more _ _ _ _ c.loop-zone-test.true c.zone-item.is c.loop-zone.invariant
    (c.if-not-leaves_zone.ensures refl)

pub returns : goal.returns
returns c = λ yes.
    LeavesAll-all c.args.cut.now c.args.zones.now c.loop-zone.zone-index
    c.loop-zone-test.false c.loop-zone.invariant
