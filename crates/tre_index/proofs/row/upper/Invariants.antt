use Rattle.tre_index.proofs.UpperRows.{IsUpperBelow}
use Rattle.tre_index.proofs.row.upper.Given as goal

abbrev pub invariant-loop-lane : goal.invariant-loop-lane
invariant-loop-lane l = IsUpperBelow l.one l.other l.row l.lane
