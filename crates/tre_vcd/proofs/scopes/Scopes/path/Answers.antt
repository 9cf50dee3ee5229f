use Rattle.std.proofs.Common.{rules}
use Rattle.std.proofs.lemmas.Result.{IfOk-weaker}
use Rattle.tre_vcd.proofs.Scoping.{path-prefix}
use Rattle.tre_vcd.proofs.scopes.Scopes.path.Goals as goal

pub returns : goal.returns
returns c = search (rules, IfOk-weaker, path-prefix, c.joined.result, c.args.reference.now)
