use Rattle.std.proofs.lemmas.List.Sorted.{IsPermutation-refl, IsPermutation-trans}
use Rattle.tre_show.proofs.order.move_near.Goals as goal

pub loop-place-init : goal.loop-place-init
loop-place-init c = IsPermutation-refl c.args.zones.now

pub loop-place-preserved : goal.loop-place-preserved
loop-place-preserved c = IsPermutation-trans _ _ _ c.loop-place.invariant c.move_forward-moves.ensures

pub returns-then-left-moves : goal.returns-then-left-moves
returns-then-left-moves c =
    IsPermutation-trans _ _ _ c.loop-place.invariant c.move_forward-moves.ensures
