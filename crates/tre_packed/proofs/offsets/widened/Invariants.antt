use Rattle.std.proofs.Common.{◌≡◌, take}
use Rattle.tre_packed.proofs.offsets.widened.Given as goal

abbrev pub invariant-loop-offset : goal.invariant-loop-offset
invariant-loop-offset l = l.far.items ≡ take l.offset-index l.near
