use Rattle.std.proofs.Common.{refl, arith, below_more, rules}
use Rattle.tre_strips.proofs.Fitting.{AreSamePlaces-below, AreSamePlaces-one, AreSamePlaces-long}
use Rattle.tre_strips.proofs.run.are_alike.Goals as goal

pub returns-then-bars-others : goal.returns-then-bars-others
returns-then-bars-others c = search (rules, AreSamePlaces-long, c.if-bars-others.true)

pub loop-place-init : goal.loop-place-init
loop-place-init c = λ k below. absurd (omega (arith, below))

pub loop-place-preserved : goal.loop-place-preserved
loop-place-preserved c =
    below_more _ _ c.loop-place.invariant (c.if-not-stand_alike.ensures.0 refl)

pub returns-then-not-stand_alike : goal.returns-then-not-stand_alike
returns-then-not-stand_alike c =
    search (rules, AreSamePlaces-one, c.loop-place.place, c.loop-place-test.true)

pub returns : goal.returns
returns c = (
  (λ e. AreSamePlaces-below c.args.bars.now c.args.others.now c.loop-place.place _
      c.if-bars-others.false c.loop-place-test.false c.loop-place.invariant),
  (λ same. refl),
)
