use Rattle.std.proofs.Common.{◌≡◌, ◌++◌, take}
use Rattle.tre_zone.specs.ZoneList.{AreCanonical}
use Rattle.tre_star.proofs.one_way.add_all.Given as goal

abbrev pub invariant-loop-zone : goal.invariant-loop-zone
invariant-loop-zone l = record {
  all : l.found.items ≡ l.initial.found.items ++ take l.zone-index l.more;
  canonical : AreCanonical (take l.zone-index l.more);
}
