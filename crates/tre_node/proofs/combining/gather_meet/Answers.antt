use Rattle.std.proofs.Common.{refl}
use Rattle.tre_pairs.specs.Pairs.{Pairs, Either, Both}
use Rattle.tre_zone.specs.Zone.{ZoneHolds}
use Rattle.tre_zone.specs.ZoneList.{SetHolds}
use Rattle.tre_zone.proofs.ZoneListLemmas.{SetHolds-empty}
use Rattle.tre_zoneset.specs.ZoneSet.{FoundHolds}
use Rattle.tre_zoneset.proofs.Unions.{HoldExactly-each_beside, HoldExactly-none_beside, HoldExactly-all, FoundHolds-exact, Both-additive_right}
use Rattle.tre_node.proofs.combining.gather_meet.Goals as goal

pub loop-other-init : goal.loop-other-init
loop-other-init c =
    HoldExactly-none_beside c.args.found.now.items _ (λ a b n h. SetHolds-empty _ _ _ h.right)

pub loop-other-preserved : goal.loop-other-preserved
loop-other-preserved c =
    HoldExactly-each_beside
    (Both (ZoneHolds c.args.zone.now))
    (Both-additive_right (ZoneHolds c.args.zone.now))
    c.args.found.now.items c.loop-other.found.items c.gather.new.found.items
    c.args.others.now c.loop-other.other-index c.other-item.result
    (FoundHolds c.meet.result)
    c.loop-other-test.true c.other-item.is c.loop-other.invariant c.in_ok-gather.ensures
    (FoundHolds-exact c.meet.result (Both (ZoneHolds c.args.zone.now)
    (ZoneHolds c.other-item.result)) c.meet.ensures)

pub returns : goal.returns
returns c =
    HoldExactly-all
    (λ (R : Pairs). Either (SetHolds c.args.found.now.items)
    (Both (ZoneHolds c.args.zone.now) R))
    c.loop-other.found.items c.args.others.now c.args.others.now c.loop-other.other-index
    c.loop-other-test.false refl c.loop-other.invariant
