use Rattle.tre_star.proofs.Powers.{AreStepsOf-zone, AreStepsOf-limit}
use Rattle.tre_star.proofs.power_limit.add_step.Goals as goal

pub returns-in_ok-push-2 : goal.returns-in_ok-push-2
returns-in_ok-push-2 c = λ zones are.
    rw (c.in_ok-push-2.ensures.items, c.in_ok-push.ensures.items)
    (AreStepsOf-limit _ zones c.args.zone.now c.in-Some.limit
    c.bounds-bounds-then-not-includes.ensures.canonical c.in-Some.ensures
    (AreStepsOf-zone c.args.steps.now.items zones c.args.zone.now
    c.bounds-bounds.ensures.canonical are))

pub returns-else-not-includes : goal.returns-else-not-includes
returns-else-not-includes c = λ zones are.
    rw c.in_ok-push.ensures.items
    (AreStepsOf-zone c.args.steps.now.items zones c.args.zone.now
    c.bounds-bounds.ensures.canonical are)

pub returns-in_default : goal.returns-in_default
returns-in_default c = λ zones are.
    rw c.in_ok-push.ensures.items
    (AreStepsOf-zone c.args.steps.now.items zones c.args.zone.now
    c.bounds-bounds.ensures.canonical are)
