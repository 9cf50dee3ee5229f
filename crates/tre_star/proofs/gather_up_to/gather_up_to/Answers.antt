use Rattle.std.proofs.Common.{rules}
use Rattle.std.proofs.lemmas.Result.{IfOk-weaker}
use Rattle.tre_star.proofs.Short.{gathered_some, found_some, found_none}
use Rattle.tre_star.proofs.gather_up_to.gather_up_to.Goals as goal

pub returns-in-Some : goal.returns-in-Some
returns-in-Some c =
    search (rules, IfOk-weaker, found_some, gathered_some, c.gather.result, c.args.longest)

pub returns-in-None : goal.returns-in-None
returns-in-None c = rw c.in-None.is (found_none c.args.longest c.args.found.now.items)
