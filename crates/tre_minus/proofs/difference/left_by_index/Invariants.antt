use Rattle.std.proofs.Common.{◌≡◌, [], take, IfSome}
use Rattle.tre_pairs.specs.Except.{Except}
use Rattle.tre_zone.specs.ZoneList.{SetHolds, HoldExactly}
use Rattle.tre_minus.proofs.difference.left_by_index.Given as goal

abbrev pub invariant-loop-zone : goal.invariant-loop-zone
invariant-loop-zone l = record {
  index : IfSome l.index (λ items. items ≡ l.taken);
  none : l.parts.items ≡ [];
  held : HoldExactly l.found.items
      (Except (SetHolds (take l.zone-index l.zones)) (SetHolds l.taken));
}
