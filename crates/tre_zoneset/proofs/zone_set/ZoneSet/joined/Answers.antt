use Rattle.std.proofs.lemmas.Result.{IfOk-weaker}
use Rattle.tre_zoneset.proofs.Unions.{HoldExactly-gathered}
use Rattle.tre_zoneset.proofs.zone_set.ZoneSet.joined.Goals as goal

pub returns : goal.returns
returns c =
    IfOk-weaker c.of_zones.result _ _
    (λ joined held. HoldExactly-gathered joined c.in_ok-zones.zones.items _ held
    (rw (c.zones.ensures.same, c.zones-2.ensures.same) at c.in_ok-zones.ensures))
    c.of_zones.ensures
