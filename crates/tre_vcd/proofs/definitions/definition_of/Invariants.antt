use Rattle.std.proofs.Common.{◌≡◌, drop}
use Rattle.tre_define.specs.Signals.{signal_definition_of}
use Rattle.tre_vcd.proofs.definitions.definition_of.Given as goal

-- the first definition of the name is the first from here on
abbrev pub invariant-loop-definition : goal.invariant-loop-definition
invariant-loop-definition l = signal_definition_of l.definitions l.name
    ≡ signal_definition_of (drop l.definition-index l.definitions) l.name
