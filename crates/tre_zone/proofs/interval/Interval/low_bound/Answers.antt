use Rattle.std.proofs.Common.{arith}
use Rattle.std.proofs.lemmas.Int.{ints}
use Rattle.tre_zone.proofs.Ends.{weak_low, strict_low}
use Rattle.tre_zone.proofs.interval.Interval.low_bound.Goals as goal

pub returns-then-self-clause-meaning : goal.returns-then-self-clause-meaning
returns-then-self-clause-meaning c = rw (← c.self.view_is, c.if-self.true)
    (weak_low c.weak.result c.self.inside.low (omega (arith, ints)))

pub returns-else-self-clause-meaning : goal.returns-else-self-clause-meaning
returns-else-self-clause-meaning c = rw (← c.self.view_is, c.if-self.false)
    (strict_low c.strict.result c.self.inside.low (omega (arith, ints)))
