use Rattle.std.proofs.Common.{rules}
use Rattle.tre_zone.proofs.Tightness.{Covers-Includes, Includes-Covers}
use Rattle.tre_zone.proofs.zone.Zone.includes.Goals as goal

pub returns-clause-pairs : goal.returns-clause-pairs
returns-clause-pairs c =
    search (rules, Covers-Includes, Includes-Covers, c.self.inside.bounds, c.other.inside.bounds)
