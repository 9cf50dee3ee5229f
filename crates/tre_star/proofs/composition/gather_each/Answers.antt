use Rattle.std.proofs.Common.{refl}
use Rattle.tre_zone.specs.Longest.{LastsUpTo}
use Rattle.tre_star.proofs.Short.{short_additive, Lasting-exact}
use Rattle.tre_pairs.specs.Pairs.{Pairs, Either, Composed, Lasting}
use Rattle.tre_zone.specs.Zone.{ZoneHolds}
use Rattle.tre_zone.specs.ZoneList.{SetHolds}
use Rattle.tre_zone.proofs.ZoneListLemmas.{SetHolds-empty}
use Rattle.tre_zoneset.specs.ZoneSet.{FoundHolds}
use Rattle.tre_zoneset.proofs.Unions.{HoldExactly-each_beside, HoldExactly-none_beside, HoldExactly-all, FoundHolds-exact}
use Rattle.tre_star.proofs.Composing.{Composed-additive_right}
use Rattle.tre_star.proofs.composition.gather_each.Goals as goal

pub loop-next-init : goal.loop-next-init
loop-next-init c =
    HoldExactly-none_beside c.args.found.now.items _
    (λ a b n h. SetHolds-empty _ _ _ h.related.right)

pub loop-next-preserved : goal.loop-next-preserved
loop-next-preserved c =
    HoldExactly-each_beside
    (λ (R : Pairs). Lasting (LastsUpTo c.args.longest) (Composed (ZoneHolds c.args.zone.now) R))
    (short_additive (LastsUpTo c.args.longest) (Composed (ZoneHolds c.args.zone.now))
    (Composed-additive_right (ZoneHolds c.args.zone.now)))
    c.args.found.now.items c.loop-next.found.items c.gather_up_to.new.found.items
    c.args.second.now c.loop-next.next-index c.next-item.result
    (Lasting (LastsUpTo c.args.longest) (FoundHolds c.compose.result))
    c.loop-next-test.true c.next-item.is c.loop-next.invariant c.in_ok-gather_up_to.ensures
    (Lasting-exact (LastsUpTo c.args.longest) (FoundHolds c.compose.result)
    (Composed (ZoneHolds c.args.zone.now) (ZoneHolds c.next-item.result))
    (FoundHolds-exact c.compose.result (Composed (ZoneHolds c.args.zone.now)
    (ZoneHolds c.next-item.result)) c.compose.ensures.pairs))

pub returns : goal.returns
returns c =
    HoldExactly-all
    (λ (R : Pairs). Either (SetHolds c.args.found.now.items)
    (Lasting (LastsUpTo c.args.longest) (Composed (ZoneHolds c.args.zone.now) R)))
    c.loop-next.found.items c.args.second.now c.args.second.now c.loop-next.next-index
    c.loop-next-test.false refl c.loop-next.invariant
