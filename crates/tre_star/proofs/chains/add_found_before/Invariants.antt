use Rattle.std.proofs.Common.{◌-◌, length}
use Rattle.tre_zoneset.proofs.Searching.{HoldsFirst}
use Rattle.tre_star.specs.Growth.{HasGrown}
use Rattle.tre_star.proofs.Looking.{Before}
use Rattle.tre_star.proofs.chains.add_found_before.Given as goal

abbrev pub invariant-loop-place : goal.invariant-loop-place
invariant-loop-place l = record {
  first : HoldsFirst (Before l.longest l.zone)
      l.initial.reached l.steps l.place l.reached;
  grown : HasGrown l.initial.reached l.reached;
}

abbrev pub decreases-loop-place : goal.decreases-loop-place
decreases-loop-place l = length l.steps - l.place
