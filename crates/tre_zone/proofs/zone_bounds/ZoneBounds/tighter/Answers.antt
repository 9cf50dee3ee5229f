use Rattle.tre_zone.specs.Closing.{tighter_of}
use Rattle.tre_zone.proofs.ZoneKeys.{zones_same}
use Rattle.tre_zone.proofs.zone_bounds.ZoneBounds.tighter.Goals as goal

pub returns : goal.returns
unfolding tighter_of
returns c = zones_same _ _ c.tighter.ensures c.tighter-2.ensures c.tighter-3.ensures
    c.tighter-4.ensures c.tighter-5.ensures c.tighter-6.ensures
