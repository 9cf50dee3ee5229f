use Rattle.tre_vcd.specs.Brief.{IsBriefOf}
use Rattle.tre_vcd.specs.Kept.{identifier_at}
use Rattle.tre_vcd.proofs.Slots.{of_first}
use Rattle.tre_vcd.proofs.brief.Brief.of.Given as goal

-- it tells of the numbers before this one
abbrev pub invariant-loop-number : goal.invariant-loop-number
invariant-loop-number l = IsBriefOf (of_first l.number (identifier_at l.variables)) l.brief
