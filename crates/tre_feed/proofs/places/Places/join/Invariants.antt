use Rattle.std.proofs.Common.{◌<◌, All, take}
use Rattle.tre_state.specs.declared.names.TheConstants.{NAMES_MAX}
use Rattle.tre_feed.specs.Growth.{Extends}
use Rattle.tre_feed.specs.Places.{ArePlaces}
use Rattle.tre_feed.proofs.places.Places.join.Given as goal

-- the names so far have their places
abbrev pub invariant-loop-number : goal.invariant-loop-number
invariant-loop-number l = record {
  places : ArePlaces (take l.number l.asked) l.all l.places.items;
  kept : Extends l.fn.all l.all;
  within : All (λ place. place < NAMES_MAX) l.places.items;
}
