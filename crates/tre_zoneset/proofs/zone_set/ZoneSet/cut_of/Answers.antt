use Rattle.std.proofs.Common.{refl}
use Rattle.tre_zoneset.proofs.Unions.{HoldExactly-gathered}
use Rattle.tre_zoneset.proofs.zone_set.ZoneSet.cut_of.Goals as goal

pub returns-then-leaves_all : goal.returns-then-leaves_all
returns-then-leaves_all c = rw c.zones.ensures.same at (c.if-leaves_all.ensures refl)

pub returns : goal.returns
returns c =
    HoldExactly-gathered c.in_ok-set.set c.in_ok-found.found.items _ c.in_ok-set.ensures
    (rw c.zones-2.ensures.same at c.in_ok-found.ensures)
