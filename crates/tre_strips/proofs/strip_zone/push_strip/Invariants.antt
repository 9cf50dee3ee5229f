use Rattle.std.proofs.Common.{take}
use Rattle.tre_strips.specs.Found.{Pushes}
use Rattle.tre_strips.proofs.strip_zone.push_strip.Given as goal

abbrev pub invariant-loop-bar : goal.invariant-loop-bar
invariant-loop-bar l =
    Pushes l.begins (take l.bar-index l.bars) l.initial.found.items l.found.items
