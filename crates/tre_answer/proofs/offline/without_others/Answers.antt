use Rattle.std.proofs.Common.{arith}
use Rattle.tre_answer.proofs.Wanted.{AreLeft-first, AreLeft-next, AreLeft-all}
use Rattle.tre_answer.proofs.offline.without_others.Goals as goal

pub loop-place-init : goal.loop-place-init
loop-place-init c = AreLeft-first c.args.set c.args.patterns.now c.args.traces.now

pub loop-place-preserved : goal.loop-place-preserved
loop-place-preserved c =
    AreLeft-next c.args.set c.args.patterns.now c.args.traces.now c.loop-place.place _ _ _ _ _
    c.loop-place.invariant c.loop-place-test.true c.requires.count c.index-patterns-place.is
    c.index-traces-place.is c.in_ok-others.ensures c.in_ok-left.ensures

pub returns : goal.returns
returns c = λ labels labelled.
    AreLeft-all c.args.set c.args.patterns.now c.args.traces.now c.loop-place.place _
    c.loop-place.invariant (omega (arith, c.loop-place-test.false)) labels labelled
