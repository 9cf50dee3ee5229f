use Rattle.std.proofs.Common.{rules}
use Rattle.tre_zoneset.proofs.AsOne.{HoldExactly-again, HoldExactly-first}
use Rattle.tre_zoneset.proofs.touching.push_united.Goals as goal

pub returns-in_ok-push_both-in-Some : goal.returns-in_ok-push_both-in-Some
returns-in_ok-push_both-in-Some c =
    HoldExactly-again _ _ _ _ _ c.in-Some.ensures.items c.in_ok-push_both-in-Some.ensures

pub returns-in_ok-push-in-None : goal.returns-in_ok-push-in-None
returns-in_ok-push-in-None c =
    search (rules, HoldExactly-first, c.args.united.now.items, c.pop.new.self.items)
