use Rattle.std.proofs.Common.{◌≤◌, length}
use Rattle.tre_zoneset.proofs.Merging.{AreMerged}
use Rattle.tre_zoneset.proofs.merge.merged.Given as goal

abbrev pub invariant-loop-zone : goal.invariant-loop-zone
invariant-loop-zone l = record {
  within : l.place ≤ length l.other;
  held : AreMerged l.zones.items l.one l.zone-index l.other l.place;
}
