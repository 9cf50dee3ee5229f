use Rattle.std.proofs.Common.{refl}
use Rattle.tre_zoneset.proofs.Rising.{HaveRisen-empty, HaveRisen-next, HaveRisen-all}
use Rattle.tre_zoneset.proofs.rise.all_rise_by.Goals as goal

pub loop-zone-init : goal.loop-zone-init
loop-zone-init c = HaveRisen-empty c.args.high

pub loop-zone-preserved : goal.loop-zone-preserved
loop-zone-preserved c =
    HaveRisen-next _ _ _ _ _ _ c.loop-zone-test.true c.zone-item.is c.bounds-bounds.ensures.same
    c.loop-zone.invariant c.bounds-bounds.ensures.canonical (c.if-not-is_behind.ensures refl)

pub returns : goal.returns
returns c = λ yes.
    HaveRisen-all c.args.high c.args.zones.now c.loop-zone.zone-index c.loop-zone.before
    c.loop-zone-test.false c.loop-zone.invariant
