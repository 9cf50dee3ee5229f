use Rattle.std.proofs.Common.{◌-◌, length, map}
use Rattle.tre_index.proofs.Searching.{HasPassed}
use Rattle.tre_index.proofs.search.next_place.Given as goal

abbrev pub invariant-loop-place : goal.invariant-loop-place
invariant-loop-place g l = HasPassed (map g.T.HasRow.row_of l.items) l.key l.from l.place

abbrev pub decreases-loop-place : goal.decreases-loop-place
decreases-loop-place g l = length l.items - l.place
