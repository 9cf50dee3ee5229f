use Rattle.std.proofs.Common.{sym, arith, rules}
use Rattle.tre_vcd.proofs.Valuing.{at-within, at-past}
use Rattle.tre_vcd.proofs.variable.identifier_of.Goals as goal

pub returns-then-place-variables : goal.returns-then-place-variables
returns-then-place-variables c =
    sym (at-past c.args.variables.now c.args.number
    (omega (arith, c.if-place-variables.true, c.from-place.ensures)))

pub returns : goal.returns
returns c =
    search (rules, at-within, c.args.variables.now, c.index-variables-place.result, c.args.number)
