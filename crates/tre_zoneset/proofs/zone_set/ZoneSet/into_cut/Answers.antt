use Rattle.tre_zoneset.proofs.Cuts.{HoldExactly-left}
use Rattle.tre_zoneset.proofs.zone_set.ZoneSet.into_cut.Goals as goal

pub returns : goal.returns
returns c =
    HoldExactly-left c.args.cut.now c.args.self (rw c.in_default.is at c.in_ok-set.ensures)
