use Rattle.std.proofs.Common.{◌-◌, length, map}
use Rattle.tre_index.proofs.Searching.{HasPassed}
use Rattle.tre_index.proofs.search.+next_block.Given as goal

abbrev pub decreases-next_block : goal.decreases-next_block
decreases-next_block l = length l.levels.now

abbrev pub invariant-loop-place : goal.invariant-loop-place
invariant-loop-place l = HasPassed (map (λ row. row) l.bounds) l.key l.from l.place

abbrev pub decreases-loop-place : goal.decreases-loop-place
decreases-loop-place l = length l.bounds - l.place
