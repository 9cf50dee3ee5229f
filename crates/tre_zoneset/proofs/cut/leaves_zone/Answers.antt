use Rattle.tre_zoneset.specs.Cut.{IsCut}
use Rattle.tre_zoneset.proofs.Cuts.{LeavesAll-left, LeavesAll-up_to}
use Rattle.tre_zoneset.proofs.cut.leaves_zone.Goals as goal

pub returns-in-Some : goal.returns-in-Some
returns-in-Some c = λ yes.
    LeavesAll-left c.args.cut.now c.args.zone.now c.in-Some.rest
    (rw c.in-Some.is at c.cut_zone.ensures) (c.includes.ensures.pairs.0 yes)

pub is_up_to-requires : goal.is_up_to-requires
unfolding IsCut
is_up_to-requires c = rw c.in-UpTo.is at c.requires

pub returns-in-UpTo : goal.returns-in-UpTo
returns-in-UpTo c = λ yes.
    rw c.in-UpTo.is
    (LeavesAll-up_to c.in-UpTo.longest c.args.zone.now (c.is_up_to.ensures.0 yes))
