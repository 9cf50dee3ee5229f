use Rattle.std.proofs.Common.{rules}
use Rattle.tre_zone.specs.Closing.{closed_of}
use Rattle.tre_zone.proofs.ZoneKeys.{zones_same}
use Rattle.tre_zone.proofs.zone_bounds.ZoneBounds.closed.Goals as goal

pub returns : goal.returns
unfolding closed_of
returns c =
    search (rules, zones_same, c.plus.ensures.key, c.plus-2.ensures.key, c.plus-3.ensures.key)
