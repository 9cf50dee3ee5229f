use Rattle.tre_lanes.specs.Rows.{HasNone}
use Rattle.tre_lanes.proofs.rows.first_cover.Given as goal

abbrev pub invariant-loop-place : goal.invariant-loop-place
invariant-loop-place l = HasNone l.rows l.key 0 l.place
