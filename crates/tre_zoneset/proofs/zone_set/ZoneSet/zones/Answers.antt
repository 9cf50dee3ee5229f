use Rattle.tre_zone.proofs.ZoneListLemmas.{AreCanonical-tight}
use Rattle.tre_zoneset.proofs.zone_set.ZoneSet.zones.Goals as goal

pub returns-clause-tight : goal.returns-clause-tight
returns-clause-tight c =
    rw (← c.self.view_is) (AreCanonical-tight c.self.inside.zones.items c.self.invariant.canonical)
