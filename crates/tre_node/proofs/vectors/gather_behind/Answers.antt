use Rattle.std.proofs.Common.{refl}
use Rattle.tre_pairs.specs.Pairs.{Pairs, Either, Composed}
use Rattle.tre_zone.specs.Zone.{ZoneHolds}
use Rattle.tre_zone.specs.ZoneList.{SetHolds}
use Rattle.tre_zone.proofs.ZoneListLemmas.{SetHolds-empty}
use Rattle.tre_zoneset.specs.ZoneSet.{FoundHolds}
use Rattle.tre_zoneset.proofs.Unions.{HoldExactly-each_beside, HoldExactly-none_beside, HoldExactly-all, FoundHolds-exact}
use Rattle.tre_star.proofs.Composing.{Composed-additive_left}
use Rattle.tre_node.proofs.vectors.gather_behind.Goals as goal

pub loop-one-init : goal.loop-one-init
loop-one-init c =
    HoldExactly-none_beside c.args.found.now.items _ (λ a b n h. SetHolds-empty _ _ _ h.left)

pub loop-one-preserved : goal.loop-one-preserved
loop-one-preserved c =
    HoldExactly-each_beside
    (λ (R : Pairs). Composed R (ZoneHolds c.args.second.now))
    (Composed-additive_left (ZoneHolds c.args.second.now))
    c.args.found.now.items c.loop-one.found.items c.gather.new.found.items
    c.args.first.now c.loop-one.one-index c.one-item.result
    (FoundHolds c.followed.result)
    c.loop-one-test.true c.one-item.is c.loop-one.invariant c.in_ok-gather.ensures
    (FoundHolds-exact c.followed.result (Composed (ZoneHolds c.one-item.result)
    (ZoneHolds c.args.second.now)) c.followed.ensures)

pub returns : goal.returns
returns c =
    HoldExactly-all
    (λ (R : Pairs). Either (SetHolds c.args.found.now.items)
    (Composed R (ZoneHolds c.args.second.now)))
    c.loop-one.found.items c.args.first.now c.args.first.now c.loop-one.one-index
    c.loop-one-test.false refl c.loop-one.invariant
