use Rattle.std.proofs.Common.{rules}
use Rattle.tre_zone.proofs.ZoneListLemmas.{AreCanonical-tight}
use Rattle.tre_show.proofs.order.printed_order.Goals as goal

pub returns : goal.returns
returns c = search (rules, AreCanonical-tight)
