use Rattle.std.proofs.Common.{arith}
use Rattle.std.proofs.lemmas.Int.{ints}
use Rattle.tre_zone.proofs.Given.{GivesZone-same, ending-keys, ending-holds}
use Rattle.tre_zone.proofs.zone.Zone.ending_at.Goals as goal

pub canonical-requires-clause-keys : goal.canonical-requires-clause-keys
canonical-requires-clause-keys c =
    rw (c.tighter.ensures, c.tighter-2.ensures)
    (ending-keys c.self.inside.bounds c.self.invariant c.weak.result c.weak-2.result
    (omega (arith, ints)) (omega (arith, ints)))

pub returns : goal.returns
returns c =
    GivesZone-same c.canonical.result _ _
    (λ a b n some le.
    rw (c.tighter.ensures, c.tighter-2.ensures, ← c.self.view_is)
    (ending-holds c.self.inside.bounds c.weak.result c.weak-2.result c.args.time
    (omega (arith, ints)) (omega (arith, ints)) a b n some))
    c.canonical.ensures
