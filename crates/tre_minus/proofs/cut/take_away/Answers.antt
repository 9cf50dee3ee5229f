use Rattle.std.proofs.Common.{refl, sym}
use Rattle.tre_minus.proofs.Comparing.{AreAdded-push, AreAdded-whole}
use Rattle.tre_minus.proofs.cut.take_away.Goals as goal

pub returns : goal.returns
returns c =
    let none = rw c.if-is_some.false at c.is_some.ensures in
    rw c.in_ok-push.ensures.items
    (AreAdded-whole c.args.zone.now c.args.taken.now c.args.from c.meet.result
    c.args.parts.now.items _ c.meet.ensures (sym none)
    (AreAdded-push c.args.zone.now c.args.from c.args.parts.now.items _ refl refl))
