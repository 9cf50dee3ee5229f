use Rattle.std.proofs.Common.{sym, arith}
use Rattle.tre_show.specs.Order.{IsRising}
use Rattle.tre_show.proofs.Rising.{next_rises}
use Rattle.tre_show.proofs.order.are_rising.Goals as goal

pub loop-place-preserved : goal.loop-place-preserved
loop-place-preserved c =
    next_rises c.args.zones.now c.loop-place.place _ _ c.loop-place.invariant
    c.loop-place-test.true c.index-zones-place-in-loop-place.is c.index-zones-place.is
    (sym c.if-comes_before.ensures)

pub returns : goal.returns
unfolding IsRising
returns c = λ yes_it. λ k d low below. c.loop-place.invariant k d (omega (arith, below))
