use Rattle.tre_zoneset.proofs.Unions.{HoldExactly-found, HoldExactly-not_found, HoldExactly-push}
use Rattle.tre_zoneset.proofs.zone_set.gather.Goals as goal

pub returns-in_ok-push : goal.returns-in_ok-push
returns-in_ok-push c =
    rw (c.in-Some.is, c.in_ok-push.ensures.items)
    (HoldExactly-found c.args.found.now.items _ c.in-Some.zone
    (HoldExactly-push c.args.found.now.items c.in-Some.zone))

pub returns-in_default : goal.returns-in_default
returns-in_default c = rw c.in_default.is (HoldExactly-not_found c.args.found.now.items)
