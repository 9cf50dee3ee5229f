use Rattle.std.proofs.Common.{rules}
use Rattle.tre_vcd.proofs.Gathering.{among-all, mapped-some}
use Rattle.tre_vcd.proofs.needed.add_definition.Goals as goal

pub returns-then-is_some-clause-joins : goal.returns-then-is_some-clause-joins
returns-then-is_some-clause-joins c =
    search (rules, among-all, mapped-some, c.deref.ensures.value, c.args.definition.now.name)
