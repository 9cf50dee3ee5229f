use Rattle.std.proofs.Common.{rules}
use Rattle.tre_vcd.proofs.Knowing.{known-push, known-few}
use Rattle.tre_vcd.proofs.Valuing.{sieve-push}
use Rattle.tre_vcd.proofs.variables.Variables.fill.Goals as goal

pub loop-preserved : goal.loop-preserved
loop-preserved c =
    search (rules, known-push, sieve-push, c.args.names.now, c.loop.self.list.items, c.new.result)

pub returns-clause-known : goal.returns-clause-known
returns-clause-known c = c.loop.invariant.known

pub returns-clause-len : goal.returns-clause-len
returns-clause-len c =
    search (rules, known-few, c.loop.invariant.known, c.args.names.now, c.loop.self.list.items)
