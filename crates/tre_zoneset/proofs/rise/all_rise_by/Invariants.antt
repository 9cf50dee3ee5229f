use Rattle.std.proofs.Common.{take}
use Rattle.tre_zoneset.proofs.Rising.{HaveRisen}
use Rattle.tre_zoneset.proofs.rise.all_rise_by.Given as goal

abbrev pub invariant-loop-zone : goal.invariant-loop-zone
invariant-loop-zone l = HaveRisen l.high (take l.zone-index l.zones) l.before
