use Rattle.std.proofs.Common.{refl}
use Rattle.tre_minus.proofs.Comparing.{AreAdded-push, AreAdded-found, AreAdded-not_found}
use Rattle.tre_minus.proofs.cut.add_found.Goals as goal

pub returns-in_ok-push : goal.returns-in_ok-push
returns-in_ok-push c =
    rw (c.in-Some.is, c.in_ok-push.ensures.items)
    (AreAdded-found c.in-Some.zone c.args.from c.args.parts.now.items _
    (AreAdded-push c.in-Some.zone c.args.from c.args.parts.now.items _ refl refl))

pub returns-in_default : goal.returns-in_default
returns-in_default c =
    rw c.in_default.is (AreAdded-not_found c.args.from c.args.parts.now.items)
