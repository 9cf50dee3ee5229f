use Rattle.std.proofs.Common.{rules}
use Rattle.std.proofs.lemmas.Result.{IfOk-weaker}
use Rattle.tre_vcd.proofs.signals.changes_by.Goals as goal

pub returns : goal.returns
returns c = search (rules, IfOk-weaker, c.changes_of.result, c.args.names.now)
