use Rattle.std.proofs.Common.{◌≤◌, map}
use Rattle.tre_index.specs.Turn.{AreNotLate}
use Rattle.tre_index.proofs.turn.find_late.Given as goal

abbrev pub invariant-loop-place : goal.invariant-loop-place
invariant-loop-place g l =
    (l.from ≤ l.place) × AreNotLate (map g.T.HasRow.row_of l.items) l.key l.from l.place
