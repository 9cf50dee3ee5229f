use Rattle.std.proofs.Common.{arith}
use Rattle.std.proofs.lemmas.Int.{ints, clamps}
use Rattle.tre_zone.proofs.Ends.{tightened}
use Rattle.tre_zone.proofs.interval.Interval.bounded.Goals as goal

pub returns-in-None-clause-meaning : goal.returns-in-None-clause-meaning
returns-in-None-clause-meaning c = λ p q n some le.
    ((λ m. (m, rw (← c.self.view_is, c.in-None.is) record {})), (λ both. both.0))

pub returns-in-Some-clause-tighter : goal.returns-in-Some-clause-tighter
returns-in-Some-clause-tighter c = omega (arith, ints, clamps, c.tighter.ensures)

pub returns-in-Some-clause-key : goal.returns-in-Some-clause-key
returns-in-Some-clause-key c = λ low.
    omega (arith, ints, clamps, low, c.tighter.ensures, c.high_bound.ensures.key)

pub returns-in-Some-clause-meaning : goal.returns-in-Some-clause-meaning
returns-in-Some-clause-meaning c = λ p q n some le.
    rw (← c.self.view_is, c.in-Some.is) (tightened c.tighter.result c.args.bound.now
    c.high_bound.result c.tighter.ensures p q n some _ (c.high_bound.ensures.meaning p q n le))
