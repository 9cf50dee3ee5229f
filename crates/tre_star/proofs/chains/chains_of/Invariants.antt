use Rattle.std.proofs.Common.{◌+◌, ◌-◌, ◌^◌, length}
use Rattle.tre_zone.specs.Longest.{LastsUpTo}
use Rattle.tre_zone.specs.Zone.{IsInstantBetween}
use Rattle.tre_star.specs.Rows.{missed}
use Rattle.tre_star.proofs.Chaining.{IsClosedTo}
use Rattle.tre_star.proofs.chains.chains_of.Given as goal

abbrev pub invariant-loop-place : goal.invariant-loop-place
invariant-loop-place l =
    IsClosedTo (LastsUpTo l.limits.longest) l.steps (IsInstantBetween l.limits.from l.limits.to) l.reached l.place

abbrev pub decreases-loop-place : goal.decreases-loop-place
decreases-loop-place l = missed (2 ^ 42) l.reached + length l.reached - l.place
