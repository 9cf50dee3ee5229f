use Rattle.tre_zoneset.proofs.Members.{IsZoneSet-empty}
use Rattle.tre_zoneset.proofs.zone_set.ZoneSet.new.Goals as goal

pub invariant_of-result : goal.invariant_of-result
invariant_of-result c = rw c.new.ensures.items IsZoneSet-empty
