use Rattle.std.proofs.Common.{◌-◌, map}
use Rattle.tre_index.specs.Turn.{IsAround}
use Rattle.tre_index.proofs.turn.first_not_early.Given as goal

abbrev pub invariant-loop-from : goal.invariant-loop-from
invariant-loop-from g l = IsAround (map g.T.HasRow.row_of l.items) l.key l.from l.to

abbrev pub decreases-loop-from : goal.decreases-loop-from
decreases-loop-from g l = l.to - l.from
