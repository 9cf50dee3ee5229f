use Rattle.std.proofs.Common.{subst}
use Rattle.tre_zone.specs.Zone.{ZoneHolds}
use Rattle.tre_zone.specs.declared.zone_bounds.ZoneBounds.{ZoneBounds}
use Rattle.tre_star.proofs.Behind.{holds_at}
use Rattle.tre_star.proofs.tails.is_included.Goals as goal

pub returns-then-includes : goal.returns-then-includes
returns-then-includes c = λ yes a b n some le h.
    holds_at c.args.zones.now c.loop-other.other-index c.other-item.result a b n
    c.loop-other-test.true
    (subst (λ (zone : ZoneBounds). ZoneHolds zone a b n) c.other-item.is
    ((c.includes.ensures.pairs.0 c.if-includes.true).every a b n some le h))
