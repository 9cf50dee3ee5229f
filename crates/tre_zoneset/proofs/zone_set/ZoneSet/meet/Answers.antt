use Rattle.std.proofs.Common.{rules}
use Rattle.std.proofs.lemmas.Result.{IfOk-weaker}
use Rattle.tre_zoneset.proofs.Unions.{HoldExactly-gathered}
use Rattle.tre_zoneset.proofs.zone_set.ZoneSet.meet.Goals as goal

pub returns : goal.returns
returns c =
    search (rules, IfOk-weaker, HoldExactly-gathered, c.of_zones.result, c.in_ok-found.found.items)

pub meets_of-requires : goal.meets_of-requires
meets_of-requires c = rw c.zones-2.ensures.same c.zones-2.ensures.set.canonical
