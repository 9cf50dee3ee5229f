use Rattle.std.proofs.Common.{arith}
use Rattle.std.proofs.lemmas.Int.{ints}
use Rattle.tre_zone.proofs.Bounds.{value-strict, Meets-strict}
use Rattle.tre_zone.proofs.bound.Bound.strict.Goals as goal

pub returns-clause-value : goal.returns-clause-value
returns-clause-value c = value-strict _ _ (omega (arith, ints))

pub returns-clause-meaning : goal.returns-clause-meaning
returns-clause-meaning c = Meets-strict _ c.args.value (omega (arith, ints))
