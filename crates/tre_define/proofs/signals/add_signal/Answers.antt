use Rattle.std.proofs.Common.{rules}
use Rattle.tre_define.proofs.signals.add_signal.Goals as goal

pub returns-clause-added : goal.returns-clause-added
returns-clause-added c =
    search (rules, c.push.ensures.items, c.args.definitions.now.items, c.in-Some.parts.name.now)
