use Rattle.std.proofs.Common.{take}
use Rattle.tre_star.specs.Powers.{AreStepsOf}
use Rattle.tre_star.proofs.power_limit.steps_of.Given as goal

abbrev pub invariant-loop-zone : goal.invariant-loop-zone
invariant-loop-zone l = AreStepsOf l.steps.items (take l.zone-index l.zones)
