use Rattle.tre_zone.proofs.ZoneListLemmas.{AreCanonical-empty}
use Rattle.tre_node.proofs.Lists.{canonical_more, canonical_all}
use Rattle.tre_online.proofs.told.known.Goals as goal

pub loop-zone-init : goal.loop-zone-init
loop-zone-init c = AreCanonical-empty

pub loop-zone-preserved : goal.loop-zone-preserved
loop-zone-preserved c =
    canonical_more c.args.zones.now c.loop-zone.zone-index c.zone-item.result
    c.loop-zone-test.true c.zone-item.is c.loop-zone.invariant c.bounds-bounds.ensures.canonical

pub returns : goal.returns
returns c =
    canonical_all c.args.zones.now c.loop-zone.zone-index c.loop-zone-test.false
    c.loop-zone.invariant
