use Rattle.std.proofs.Common.{take}
use Rattle.tre_feed.specs.Places.{ArePlaces}
use Rattle.tre_feed.proofs.places.Places.own.Given as goal

-- the names so far have their places
abbrev pub invariant-loop-number : goal.invariant-loop-number
invariant-loop-number l = ArePlaces (take l.number l.names) l.names l.places.items
