use Rattle.tre_star.specs.Tails.{AreTails}
use Rattle.tre_star.proofs.tails.tails_of.Given as goal

abbrev pub invariant-loop-count : goal.invariant-loop-count
invariant-loop-count l = AreTails l.count l.tails.items l.zones
