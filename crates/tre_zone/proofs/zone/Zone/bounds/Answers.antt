use Rattle.tre_zone.proofs.Tightness.{canonical-keys, canonical-tight, canonical-some}
use Rattle.tre_zone.proofs.zone.Zone.bounds.Goals as goal

pub returns-clause-keys : goal.returns-clause-keys
returns-clause-keys c = rw (← c.self.view_is) (canonical-keys c.self.inside.bounds c.self.invariant)

pub returns-clause-tight : goal.returns-clause-tight
returns-clause-tight c = rw (← c.self.view_is)
    (canonical-tight c.self.inside.bounds c.self.invariant)

pub returns-clause-some : goal.returns-clause-some
returns-clause-some c = rw (← c.self.view_is) (canonical-some c.self.inside.bounds c.self.invariant)
