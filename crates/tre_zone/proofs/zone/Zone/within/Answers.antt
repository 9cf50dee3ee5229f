use Rattle.std.proofs.Common.{arith}
use Rattle.std.proofs.lemmas.Int.{ints}
use Rattle.tre_zone.proofs.Given.{GivesZone-same, within-keys, within-holds}
use Rattle.tre_zone.proofs.Tightness.{canonical-keys}
use Rattle.tre_zone.proofs.zone.Zone.within.Goals as goal

pub canonical-requires-clause-keys : goal.canonical-requires-clause-keys
canonical-requires-clause-keys c =
    let low = c.bounded.ensures.key ((canonical-keys c.self.inside.bounds
    c.self.invariant).dur_high.low) in
    rw c.tighter.ensures
    (within-keys c.self.inside.bounds c.self.invariant c.low_bound.result c.bounded.result
    (omega (arith, ints)) c.bounded.ensures.tighter (omega (arith, ints)))

pub returns : goal.returns
returns c =
    GivesZone-same c.canonical.result _ _
    (λ a b n some le.
    rw (c.tighter.ensures, ← c.self.view_is)
    (within-holds c.self.inside.bounds c.low_bound.result c.bounded.result c.args.interval.now
    c.low_bound.ensures.meaning c.bounded.ensures.meaning a b n some le))
    c.canonical.ensures
