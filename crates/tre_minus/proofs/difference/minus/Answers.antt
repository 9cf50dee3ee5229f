use Rattle.tre_zoneset.proofs.Unions.{HoldExactly-gathered}
use Rattle.tre_minus.proofs.difference.minus.Goals as goal

pub returns : goal.returns
returns c =
    HoldExactly-gathered c.in_ok-left.left c.in_ok-found.found.items _
    c.in_ok-left.ensures
    (rw (c.zones.ensures.same, c.zones-2.ensures.same) at c.in_ok-found.ensures)

pub zones_left-requires : goal.zones_left-requires
zones_left-requires c = rw c.zones-2.ensures.same c.zones-2.ensures.set.canonical
