use Rattle.tre_zone.specs.Longest.{LastsUpTo}
use Rattle.std.proofs.Common.{IfSome, length, take, ◌++◌}
use Rattle.tre_pairs.specs.Pairs.{Composed, Lasting}
use Rattle.tre_zone.specs.ZoneList.{SetHolds, HoldExactly}
use Rattle.tre_star.specs.Tails.{AreTails}
use Rattle.tre_star.proofs.composition.compose_in_turn.Given as goal

abbrev pub invariant-loop-zone : goal.invariant-loop-zone
invariant-loop-zone l = record {
  tails : IfSome l.pass.tails (λ known. AreTails (length l.second) known.items l.second);
  held : HoldExactly l.found.items
      (Lasting (LastsUpTo l.longest)
      (Composed (SetHolds (take l.zone-index l.first)) (SetHolds (l.second ++ l.others))));
}
