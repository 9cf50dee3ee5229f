use Rattle.tre_zone.proofs.Closing.{tighter-holds}
use Rattle.tre_zone.proofs.Given.{GivesZone-same, tighter-keys, tighter-framed}
use Rattle.tre_zone.proofs.zone.Zone.meet.Goals as goal

pub canonical-requires-clause-framed : goal.canonical-requires-clause-framed
canonical-requires-clause-framed c = rw c.tighter.ensures
    (tighter-framed c.self.inside.bounds c.other.inside.bounds c.self.invariant)

pub canonical-requires-clause-keys : goal.canonical-requires-clause-keys
canonical-requires-clause-keys c =
    rw c.tighter.ensures (tighter-keys c.self.inside.bounds c.other.inside.bounds c.self.invariant
    c.other.invariant)

pub returns : goal.returns
returns c =
    GivesZone-same c.canonical.result _ _
    (λ a b n some le. rw (c.tighter.ensures, ← c.self.view_is, ← c.other.view_is)
    (tighter-holds c.self.inside.bounds c.other.inside.bounds a b n some))
    c.canonical.ensures
