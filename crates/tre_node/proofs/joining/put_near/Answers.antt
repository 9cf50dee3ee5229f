use Rattle.std.proofs.Common.{subst, sym, [], ◌∷◌}
use Rattle.tre_node.specs.Outer.{JoinsAll}
use Rattle.tre_node.proofs.Joins.{joins_at, joins_pushed}
use Rattle.tre_node.proofs.joining.put_near.Goals as goal

pub returns-in-Some : goal.returns-in-Some
returns-in-Some c = joins_at c.args.outer.now.items c.args.zone.now c.in-Some.joined
    (rw c.deref.ensures.value at c.in-Some.ensures)

pub returns : goal.returns
returns c =
    subst (λ list. JoinsAll c.args.outer.now.items (c.args.zone.now ∷ []) list) (sym c.in_ok-push.ensures.items)
    (joins_pushed c.args.outer.now.items c.args.zone.now)
