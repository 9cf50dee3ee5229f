use Rattle.std.proofs.Common.{map}
use Rattle.tre_index.specs.Turn.{AreInTurnTo}
use Rattle.tre_index.proofs.turn.count_in_turn.Given as goal

abbrev pub invariant-loop-place : goal.invariant-loop-place
invariant-loop-place g l = AreInTurnTo l.place (map g.T.HasRow.row_of l.items)
