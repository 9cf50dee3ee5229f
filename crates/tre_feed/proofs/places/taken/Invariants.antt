use Rattle.std.proofs.Common.{◌≡◌, ◌≤◌, length, drop}
use Rattle.tre_feed.specs.Taking.{bits_at}
use Rattle.tre_feed.proofs.places.taken.Given as goal

-- the bits of the names from this place on
abbrev pub invariant-loop-left : goal.invariant-loop-left
invariant-loop-left l = record {
  within : l.left ≤ length l.places;
  seen : l.seen ≡ bits_at (drop l.left l.places) l.bits;
}

abbrev pub decreases-loop-left : goal.decreases-loop-left
decreases-loop-left l = l.left
