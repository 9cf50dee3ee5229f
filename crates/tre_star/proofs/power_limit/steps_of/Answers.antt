use Rattle.std.proofs.Common.{take}
use Rattle.std.proofs.lemmas.List.{take_more}
use Rattle.tre_star.proofs.Powers.{AreStepsOf-none}
use Rattle.tre_star.proofs.power_limit.steps_of.Goals as goal

pub loop-zone-init : goal.loop-zone-init
loop-zone-init c = rw c.new-steps.ensures.items AreStepsOf-none

pub loop-zone-preserved : goal.loop-zone-preserved
loop-zone-preserved c =
    rw (
      take_more c.args.zones.now c.loop-zone.zone-index c.zone-item.result
          c.loop-zone-test.true,
      ← c.zone-item.is,
    )
    (c.in_ok-add_step.ensures (take c.loop-zone.zone-index c.args.zones.now)
    c.loop-zone.invariant)
