use Rattle.std.proofs.Common.{◌≡◌, map, not, take}
use Rattle.tre_vcd.specs.Offers.{is_compared}
use Rattle.tre_vcd.proofs.found.alone.Given as goal

-- those of the definitions so far
abbrev pub invariant-loop-definition : goal.invariant-loop-definition
invariant-loop-definition l =
    l.flags.items ≡ map (λ one. not (is_compared one)) (take l.definition-index l.definitions)
