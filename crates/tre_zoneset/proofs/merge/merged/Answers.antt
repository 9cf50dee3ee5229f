use Rattle.std.proofs.Common.{take, arith}
use Rattle.tre_zoneset.proofs.Merging.{AreMerged-none, AreMerged-first, AreMerged-rest}
use Rattle.tre_zoneset.proofs.merge.merged.Goals as goal

pub loop-zone-init : goal.loop-zone-init
loop-zone-init c = record {
  within = omega arith;
  held = rw c.in_ok-zones.ensures.items (AreMerged-none c.args.one.now c.args.other.now);
}

pub loop-zone-preserved : goal.loop-zone-preserved
loop-zone-preserved c =
    let held = c.in_ok-place.ensures.held (take c.loop-zone.zone-index c.args.one.now)
    c.loop-zone.invariant.held in
    record {
      within = c.in_ok-place.ensures.within;
      held = rw c.in_ok-push.ensures.items
          (AreMerged-first c.add_earlier.new.zones.items c.args.one.now c.loop-zone.zone-index
          c.args.other.now c.in_ok-place.place c.zone-item.result c.loop-zone-test.true
          c.zone-item.is held);
    }

pub returns : goal.returns
returns c =
    rw c.in_ok-extend_from_slice.ensures.items
    (AreMerged-rest c.loop-zone.zones.items c.args.one.now c.loop-zone.zone-index
    c.args.other.now c.loop-zone.place c.loop-zone-test.false c.loop-zone.invariant.held)
