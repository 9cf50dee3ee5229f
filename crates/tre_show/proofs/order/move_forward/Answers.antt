use Rattle.std.proofs.Common.{arith, rules}
use Rattle.std.proofs.lemmas.List.Sorted.{IsPermutation-refl, IsPermutation-trans}
use Rattle.tre_show.proofs.order.move_forward.Goals as goal

pub loop-at-init : goal.loop-at-init
loop-at-init c = search (rules, IsPermutation-refl)

pub bounds-zones-at : goal.bounds-zones-at
bounds-zones-at c =
    omega (arith, c.loop-at.invariant.within, c.loop-at.invariant.long, c.requires)

pub bounds-zones-at-in-loop-at : goal.bounds-zones-at-in-loop-at
bounds-zones-at-in-loop-at c =
    omega (arith, c.loop-at.invariant.within, c.loop-at.invariant.long, c.requires)

pub swap-requires-clause-a_in_bounds : goal.swap-requires-clause-a_in_bounds
swap-requires-clause-a_in_bounds c =
    omega (arith, c.loop-at.invariant.within, c.loop-at.invariant.long, c.requires)

pub swap-requires-clause-b_in_bounds : goal.swap-requires-clause-b_in_bounds
swap-requires-clause-b_in_bounds c =
    omega (arith, c.loop-at.invariant.within, c.loop-at.invariant.long, c.requires)

pub loop-at-preserved : goal.loop-at-preserved
loop-at-preserved c = search (rules, IsPermutation-trans, c.loop-at.invariant.same)

pub shape_of-zones : goal.shape_of-zones
shape_of-zones c = c.loop-at.invariant.long
