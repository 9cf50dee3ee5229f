use Rattle.std.proofs.Common.{map}
use Rattle.tre_index.proofs.Raising.{IsAboveFirst}
use Rattle.tre_index.proofs.level.Level.above.Given as goal

abbrev pub invariant-loop-place : goal.invariant-loop-place
invariant-loop-place g l = IsAboveFirst (map g.T.HasRow.row_of l.items) l.level l.place
