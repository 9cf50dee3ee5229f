use Rattle.std.proofs.Common.{take, ◌*◌}
use Rattle.tre_strips.specs.Bar.{AreFilled}
use Rattle.tre_strips.proofs.run.are_filled.Given as goal

abbrev pub invariant-loop-bar : goal.invariant-loop-bar
invariant-loop-bar l = AreFilled (take l.bar-index l.bars) (2 * l.time) 2
