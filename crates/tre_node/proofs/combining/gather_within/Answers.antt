use Rattle.std.proofs.Common.{refl}
use Rattle.tre_pairs.specs.Pairs.{Pairs, Either, Lasting}
use Rattle.tre_zone.specs.Zone.{ZoneHolds}
use Rattle.tre_zone.specs.Interval.{LastsWithin}
use Rattle.tre_zone.specs.ZoneList.{SetHolds}
use Rattle.tre_zone.proofs.ZoneListLemmas.{SetHolds-empty}
use Rattle.tre_zoneset.specs.ZoneSet.{FoundHolds}
use Rattle.tre_zoneset.proofs.Unions.{HoldExactly-each_beside, HoldExactly-none_beside, HoldExactly-all, FoundHolds-exact, Lasting-additive}
use Rattle.tre_node.proofs.combining.gather_within.Goals as goal

pub loop-zone-init : goal.loop-zone-init
loop-zone-init c =
    HoldExactly-none_beside c.args.found.now.items _ (λ a b n h. SetHolds-empty _ _ _ h.related)

pub loop-zone-preserved : goal.loop-zone-preserved
loop-zone-preserved c =
    HoldExactly-each_beside
    (λ (R : Pairs). Lasting (LastsWithin c.args.interval.now) R)
    (Lasting-additive (LastsWithin c.args.interval.now))
    c.args.found.now.items c.loop-zone.found.items c.gather.new.found.items
    c.args.zones.now c.loop-zone.zone-index c.zone-item.result
    (FoundHolds c.within.result)
    c.loop-zone-test.true c.zone-item.is c.loop-zone.invariant c.in_ok-gather.ensures
    (FoundHolds-exact c.within.result (Lasting (LastsWithin c.args.interval.now)
    (ZoneHolds c.zone-item.result)) c.within.ensures)

pub returns : goal.returns
returns c =
    HoldExactly-all
    (λ (R : Pairs). Either (SetHolds c.args.found.now.items)
    (Lasting (LastsWithin c.args.interval.now) R))
    c.loop-zone.found.items c.args.zones.now c.args.zones.now c.loop-zone.zone-index
    c.loop-zone-test.false refl c.loop-zone.invariant
