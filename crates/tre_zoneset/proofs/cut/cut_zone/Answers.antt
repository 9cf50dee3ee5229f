use Rattle.tre_zone.specs.Zone.{ZoneHolds}
use Rattle.tre_zoneset.specs.Cut.{IsCut}
use Rattle.tre_zoneset.proofs.Cuts.{GivesZone-within, GivesZone-up_to, GivesZone-ending}
use Rattle.tre_zoneset.proofs.cut.cut_zone.Goals as goal

pub returns-in-Within : goal.returns-in-Within
returns-in-Within c = rw c.in-Within.is
    (GivesZone-within c.in-Within.interval c.within.result (ZoneHolds c.args.zone.now)
    c.within.ensures)

pub returns-in-UpTo : goal.returns-in-UpTo
returns-in-UpTo c = rw c.in-UpTo.is
    (GivesZone-up_to c.in-UpTo.longest c.up_to.result (ZoneHolds c.args.zone.now)
    c.up_to.ensures)

pub returns-in-EndingAt : goal.returns-in-EndingAt
returns-in-EndingAt c = rw c.in-EndingAt.is
    (GivesZone-ending c.in-EndingAt.time c.ending_at.result (ZoneHolds c.args.zone.now)
    c.ending_at.ensures)

pub up_to-requires : goal.up_to-requires
unfolding IsCut
up_to-requires c = rw c.in-UpTo.is at c.requires

pub ending_at-requires : goal.ending_at-requires
unfolding IsCut
ending_at-requires c = rw c.in-EndingAt.is at c.requires
