use Rattle.std.proofs.Common.{rules}
use Rattle.tre_strips.proofs.StripZones.{GivesZone-part}
use Rattle.tre_strips.proofs.strip_zone.zone_of.Goals as goal

pub returns : goal.returns
returns c =
    search (rules, GivesZone-part, c.args.begins.now, c.args.bar.now, c.high_bound.ensures.meaning)
