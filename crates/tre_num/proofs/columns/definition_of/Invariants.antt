use Rattle.std.proofs.Common.{◌≡◌, drop}
use Rattle.tre_num.specs.Rows.{definition_of}
use Rattle.tre_num.proofs.columns.definition_of.Given as goal

-- the first definition of the name is the first from here on
abbrev pub invariant-loop-definition : goal.invariant-loop-definition
invariant-loop-definition l = definition_of l.definitions l.name
    ≡ definition_of (drop l.definition-index l.definitions) l.name
