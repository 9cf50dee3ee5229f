use Rattle.std.proofs.Common.{take}
use Rattle.tre_vcd.specs.Bases.{HasSignals}
use Rattle.tre_vcd.proofs.bases.bases_of.Given as goal

-- those so far are there
abbrev pub invariant-loop-definition : goal.invariant-loop-definition
invariant-loop-definition l = HasSignals l.bases (take l.definition-index l.definitions)
