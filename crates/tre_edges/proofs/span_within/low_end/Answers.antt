use Rattle.std.proofs.Common.{arith}
use Rattle.std.proofs.lemmas.Int.{ints}
use Rattle.tre_zone.proofs.Ends.{weak_low, strict_low}
use Rattle.tre_edges.proofs.span_within.low_end.Goals as goal

pub returns-then-low_weak-clause-meaning : goal.returns-then-low_weak-clause-meaning
returns-then-low_weak-clause-meaning c =
    rw (← c.low_weak.ensures, c.if-low_weak.true)
    (weak_low c.weak.result c.args.interval.now.low (omega (arith, ints, c.low.ensures.low)))

pub returns-else-low_weak-clause-meaning : goal.returns-else-low_weak-clause-meaning
returns-else-low_weak-clause-meaning c =
    rw (← c.low_weak.ensures, c.if-low_weak.false)
    (strict_low c.strict.result c.args.interval.now.low (omega (arith, ints, c.low.ensures.low)))
