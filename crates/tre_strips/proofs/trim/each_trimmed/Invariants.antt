use Rattle.std.proofs.Common.{take}
use Rattle.tre_strips.proofs.Trimming.{IsTrimmed}
use Rattle.tre_strips.proofs.trim.each_trimmed.Given as goal

abbrev pub invariant-loop-zone : goal.invariant-loop-zone
invariant-loop-zone l = IsTrimmed (take l.zone-index l.zones) l.before l.kept.items
