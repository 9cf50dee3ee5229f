use Rattle.std.proofs.Common.{arith}
use Rattle.std.proofs.lemmas.Int.{ints}
use Rattle.tre_zone.proofs.Ends.{tightened}
use Rattle.tre_edges.proofs.SpansWithin.{no_instant}
use Rattle.tre_edges.proofs.span_within.least_of.Goals as goal

pub returns-clause-meaning : goal.returns-clause-meaning
returns-clause-meaning c = λ p q n some le.
    no_instant c.strict.result (omega (arith, ints, c.strict.ensures.key)) p q n _ _
    (tightened c.tighter.result c.strict.result c.low_end.result c.tighter.ensures p q n some _
    (c.low_end.ensures.meaning p q n le))
