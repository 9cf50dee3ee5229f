use Rattle.std.proofs.Common.{rules}
use Rattle.tre_zone.specs.Closing.{framed_of}
use Rattle.tre_zone.proofs.ZoneKeys.{zones_same}
use Rattle.tre_zone.proofs.zone_bounds.ZoneBounds.framed.Goals as goal

pub returns : goal.returns
unfolding framed_of
returns c = search (rules, zones_same)
