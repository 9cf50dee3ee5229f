use Rattle.std.proofs.Common.{rules}
use Rattle.tre_vcd.specs.Signals.{test_told}
use Rattle.tre_vcd.proofs.Testing.{test-past, test-within}
use Rattle.tre_vcd.proofs.tests.told_at.Goals as goal

pub returns-then-place-list : goal.returns-then-place-list
returns-then-place-list c =
    search (rules, test_told, test-past, c.args.list.now, c.args.number, c.args.identifier.now)

pub returns : goal.returns
returns c =
    search (rules, test-within, c.args.list.now, c.from-place.result, c.args.identifier.now)
