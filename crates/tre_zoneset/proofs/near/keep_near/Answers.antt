use Rattle.std.proofs.Common.{rules}
use Rattle.tre_zoneset.proofs.NearZones.{AreReached-push}
use Rattle.tre_zoneset.proofs.Unions.{SetHolds-included}
use Rattle.tre_zoneset.proofs.near.keep_near.Goals as goal

pub returns-in-Some-true-clause-held : goal.returns-in-Some-true-clause-held
returns-in-Some-true-clause-held c = search (rules, SetHolds-included, c.args.kept.now)

pub returns-in_ok-push_apart-in-Some-false-clause-reached :
    goal.returns-in_ok-push_apart-in-Some-false-clause-reached
returns-in_ok-push_apart-in-Some-false-clause-reached c =
    search (rules, AreReached-push, c.args.kept.now, c.args.reaches.now.items, c.args.zone.now)
