use Rattle.std.proofs.Common.{rules}
use Rattle.tre_zoneset.proofs.AsOne.{HoldExactly-as_one, HoldExactly-two}
use Rattle.tre_zoneset.proofs.touching.push_both.Goals as goal

pub returns-in_ok-push-in-Some : goal.returns-in_ok-push-in-Some
returns-in_ok-push-in-Some c =
    search (rules, HoldExactly-as_one, c.args.united.now.items, c.args.last.now, c.args.zone.now)

pub returns-in_ok-push-in-None-2 : goal.returns-in_ok-push-in-None-2
returns-in_ok-push-in-None-2 c =
    rw (c.in_ok-push-in-None-2.ensures.items, c.in_ok-push-in-None.ensures.items)
    (HoldExactly-two c.args.united.now.items c.args.last.now c.args.zone.now)
