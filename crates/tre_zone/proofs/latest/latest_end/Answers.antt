use Rattle.tre_zone.proofs.LatestEnds.{latest_of_none, latest_of_next, latest_of_all}
use Rattle.tre_zone.proofs.latest.latest_end.Goals as goal

pub loop-zone-init : goal.loop-zone-init
loop-zone-init c = latest_of_none

pub loop-zone-preserved : goal.loop-zone-preserved
loop-zone-preserved c =
    latest_of_next _ _ _ _ _ _ c.loop-zone-test.true c.zone-item.is c.loop-zone.invariant
    c.latest_end.ensures c.max-latest.ensures

pub returns : goal.returns
returns c = latest_of_all _ _ _ c.loop-zone-test.false c.loop-zone.invariant
