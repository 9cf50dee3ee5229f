use Rattle.std.proofs.Common.{rules}
use Rattle.tre_zoneset.proofs.zone_set.ZoneSet.of_touching.Goals as goal

pub returns : goal.returns
returns c =
    search (rules, c.of_zones-2.result, c.in_ok-united.united.items, c.deref-2.ensures.value)
