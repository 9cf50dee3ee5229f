use Rattle.std.proofs.Common.{arith, rules}
use Rattle.std.proofs.lemmas.Int.{ints}
use Rattle.tre_zone.proofs.Ends.{tightened}
use Rattle.tre_edges.proofs.SpansWithin.{in_whole, in_whole_too}
use Rattle.tre_edges.proofs.span_within.most_of.Goals as goal

pub returns-in-None-clause-meaning : goal.returns-in-None-clause-meaning
returns-in-None-clause-meaning c = search (rules, in_whole, c.weak-whole.result)

pub returns-in-Some-clause-meaning : goal.returns-in-Some-clause-meaning
returns-in-Some-clause-meaning c = λ p q n some le.
    rw (← c.high.ensures.high, c.in-Some.is, ← c.high_weak.ensures.weak)
    (in_whole_too c.weak-whole.result c.args.length
    (omega (arith, ints, c.weak-whole.ensures.key)) p q n le _ _
    (tightened c.tighter.result c.weak-whole.result c.high_end.result c.tighter.ensures p q n some _
    (c.high_end.ensures.meaning p q n le)))

pub returns-in-None-clause-low : goal.returns-in-None-clause-low
returns-in-None-clause-low c = omega (arith, ints, c.weak-whole.ensures.key)

pub returns-in-None-clause-high : goal.returns-in-None-clause-high
returns-in-None-clause-high c = omega (arith, ints, c.weak-whole.ensures.key)
