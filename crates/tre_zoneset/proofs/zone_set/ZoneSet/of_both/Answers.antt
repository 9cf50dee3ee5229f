use Rattle.std.proofs.Common.{rules}
use Rattle.std.proofs.lemmas.Result.{IfOk-weaker}
use Rattle.tre_zoneset.proofs.Unions.{HoldExactly-append}
use Rattle.tre_zoneset.proofs.zone_set.ZoneSet.of_both.Goals as goal

pub returns : goal.returns
returns c = search (rules, IfOk-weaker, HoldExactly-append, c.of_touching.result, c.args.one.now)
