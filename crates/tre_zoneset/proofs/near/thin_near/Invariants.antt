use Rattle.std.proofs.Common.{take}
use Rattle.tre_zone.specs.ZoneList.{SetHolds, HoldExactly}
use Rattle.tre_zoneset.specs.Near.{AreReached}
use Rattle.tre_zoneset.proofs.near.thin_near.Given as goal

abbrev pub invariant-loop-zone : goal.invariant-loop-zone
invariant-loop-zone l = record {
  held : HoldExactly l.kept (SetHolds (take l.zone-index l.zones));
  reached : AreReached l.kept l.reaches.items;
}
