use Rattle.std.proofs.Common.{rules}
use Rattle.tre_vcd.specs.Kept.{identifier_at}
use Rattle.tre_vcd.proofs.Slots.{brief-begins, brief-same, of-all}
use Rattle.tre_vcd.proofs.brief.Brief.of.Goals as goal

pub returns : goal.returns
returns c = search (rules, brief-same, identifier_at, of-all, c.loop-number.number)

pub loop-number-init : goal.loop-number-init
loop-number-init c = brief-begins (identifier_at c.args.variables.now) _ c.new-brief.ensures
