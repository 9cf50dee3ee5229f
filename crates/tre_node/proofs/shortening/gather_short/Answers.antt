use Rattle.std.proofs.Common.{refl}
use Rattle.tre_pairs.specs.Pairs.{Pairs, Either, Lasting}
use Rattle.tre_zone.specs.Zone.{ZoneHolds}
use Rattle.tre_zone.specs.Longest.{LastsUpTo}
use Rattle.tre_zone.specs.ZoneList.{SetHolds}
use Rattle.tre_zone.proofs.ZoneListLemmas.{SetHolds-empty}
use Rattle.tre_zoneset.specs.ZoneSet.{FoundHolds}
use Rattle.tre_zoneset.proofs.Unions.{HoldExactly-each_beside, HoldExactly-none_beside, HoldExactly-all, FoundHolds-exact, Lasting-additive}
use Rattle.tre_node.proofs.shortening.gather_short.Goals as goal

pub loop-zone-init : goal.loop-zone-init
loop-zone-init c =
    HoldExactly-none_beside c.args.found.now.items _ (λ a b n h. SetHolds-empty _ _ _ h.related)

pub loop-zone-preserved : goal.loop-zone-preserved
loop-zone-preserved c =
    HoldExactly-each_beside
    (λ (R : Pairs). Lasting (LastsUpTo c.args.longest) R)
    (Lasting-additive (LastsUpTo c.args.longest))
    c.args.found.now.items c.loop-zone.found.items c.gather.new.found.items
    c.args.zones.now c.loop-zone.zone-index c.zone-item.result
    (FoundHolds c.up_to.result)
    c.loop-zone-test.true c.zone-item.is c.loop-zone.invariant c.in_ok-gather.ensures
    (FoundHolds-exact c.up_to.result (Lasting (LastsUpTo c.args.longest)
    (ZoneHolds c.zone-item.result)) c.up_to.ensures)

pub returns : goal.returns
returns c =
    HoldExactly-all
    (λ (R : Pairs). Either (SetHolds c.args.found.now.items)
    (Lasting (LastsUpTo c.args.longest) R))
    c.loop-zone.found.items c.args.zones.now c.args.zones.now c.loop-zone.zone-index
    c.loop-zone-test.false refl c.loop-zone.invariant
