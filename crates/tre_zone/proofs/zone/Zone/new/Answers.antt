use Rattle.tre_zone.proofs.Closing.{framed-framed, framed-holds}
use Rattle.tre_zone.proofs.Given.{GivesZone-same, framed-keys}
use Rattle.tre_zone.proofs.zone.Zone.new.Goals as goal

pub canonical-requires-clause-framed : goal.canonical-requires-clause-framed
canonical-requires-clause-framed c = rw c.framed.ensures (framed-framed c.args.bounds.now)

pub canonical-requires-clause-keys : goal.canonical-requires-clause-keys
canonical-requires-clause-keys c = rw c.framed.ensures (framed-keys c.args.bounds.now c.requires)

pub returns : goal.returns
returns c =
    GivesZone-same c.canonical.result _ _
    (λ a b n some le. rw c.framed.ensures (framed-holds c.args.bounds.now a b n some))
    c.canonical.ensures
