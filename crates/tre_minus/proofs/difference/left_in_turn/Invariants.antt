use Rattle.std.proofs.Common.{◌≡◌, [], take}
use Rattle.tre_pairs.specs.Except.{Except}
use Rattle.tre_zone.specs.ZoneList.{SetHolds, HoldExactly}
use Rattle.tre_minus.proofs.difference.left_in_turn.Given as goal

abbrev pub invariant-loop-zone : goal.invariant-loop-zone
invariant-loop-zone l = record {
  none : l.parts.items ≡ [];
  held : HoldExactly l.found.items
      (Except (SetHolds (take l.zone-index l.zones)) (SetHolds l.taken));
}
