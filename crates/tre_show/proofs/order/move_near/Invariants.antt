use Rattle.std.specs.Prelude.{IsPermutation}
use Rattle.tre_show.proofs.order.move_near.Given as goal

abbrev pub invariant-loop-place : goal.invariant-loop-place
invariant-loop-place l = IsPermutation l.fn.zones l.zones
