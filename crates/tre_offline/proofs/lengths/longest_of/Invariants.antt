use Rattle.std.proofs.Common.{◌≤◌, take, Some}
use Rattle.tre_pairs.specs.declared.TheConstants.{TIME_MAX}
use Rattle.tre_offline.specs.Lengths.{LastUpTo}
use Rattle.tre_offline.proofs.lengths.longest_of.Given as goal

abbrev pub invariant-loop-zone : goal.invariant-loop-zone
invariant-loop-zone l = (l.most ≤ TIME_MAX)
    × LastUpTo (Some l.most) (take l.zone-index l.zone-items)
