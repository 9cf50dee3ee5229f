use Rattle.std.proofs.Common.{arith}
use Rattle.std.proofs.lemmas.Int.{ints}
use Rattle.tre_zone.proofs.Bounds.{value-weak, Meets-weak}
use Rattle.tre_zone.proofs.bound.Bound.weak.Goals as goal

pub returns-clause-value : goal.returns-clause-value
returns-clause-value c = value-weak _ _ (omega (arith, ints))

pub returns-clause-meaning : goal.returns-clause-meaning
returns-clause-meaning c = Meets-weak _ c.args.value (omega (arith, ints))
