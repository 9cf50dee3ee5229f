use Rattle.std.proofs.Common.{refl}
use Rattle.tre_pairs.specs.Pairs.{Pairs, Either, Composed}
use Rattle.tre_zone.specs.Zone.{ZoneHolds}
use Rattle.tre_zone.specs.ZoneList.{SetHolds}
use Rattle.tre_zone.proofs.ZoneListLemmas.{SetHolds-empty}
use Rattle.tre_zoneset.proofs.Unions.{HoldExactly-each_beside, HoldExactly-none_beside, HoldExactly-all}
use Rattle.tre_star.proofs.Composing.{Composed-additive_right}
use Rattle.tre_node.proofs.vectors.gather_each.Goals as goal

pub loop-other-init : goal.loop-other-init
loop-other-init c =
    HoldExactly-none_beside c.args.found.now.items _ (λ a b n h. SetHolds-empty _ _ _ h.right)

pub loop-other-preserved : goal.loop-other-preserved
loop-other-preserved c =
    HoldExactly-each_beside
    (Composed (SetHolds c.args.first.now))
    (Composed-additive_right (SetHolds c.args.first.now))
    c.args.found.now.items c.loop-other.found.items c.gather_behind.new.found.items
    c.args.second.now c.loop-other.other-index c.other-item.result
    (Composed (SetHolds c.args.first.now) (ZoneHolds c.other-item.result))
    c.loop-other-test.true c.other-item.is c.loop-other.invariant c.in_ok-gather_behind.ensures
    (λ a b n some le. ((λ h. h), (λ h. h)))

pub returns : goal.returns
returns c =
    HoldExactly-all
    (λ (R : Pairs). Either (SetHolds c.args.found.now.items)
    (Composed (SetHolds c.args.first.now) R))
    c.loop-other.found.items c.args.second.now c.args.second.now c.loop-other.other-index
    c.loop-other-test.false refl c.loop-other.invariant
