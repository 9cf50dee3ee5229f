use Rattle.std.proofs.Common.{refl}
use Rattle.tre_zoneset.proofs.Kept.{IsApartFrom-none, IsApartFrom-more, IsApartFrom-all}
use Rattle.tre_zoneset.proofs.rise.is_apart_from.Goals as goal

pub loop-other-init : goal.loop-other-init
loop-other-init c = IsApartFrom-none c.args.zone.now

pub loop-other-preserved : goal.loop-other-preserved
loop-other-preserved c =
    IsApartFrom-more _ _ _ _ c.loop-other-test.true c.other-item.is c.loop-other.invariant
    (c.if-not-are_apart.ensures.0 refl)

pub returns : goal.returns
returns c = λ yes.
    IsApartFrom-all c.args.zone.now c.args.others.now c.loop-other.other-index
    c.loop-other-test.false c.loop-other.invariant
