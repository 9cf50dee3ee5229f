use Rattle.tre_pairs.specs.Pairs.{Composed, Lasting}
use Rattle.tre_zone.specs.Longest.{LastsUpTo}
use Rattle.tre_zone.specs.Zone.{ZoneHolds}
use Rattle.tre_zone.specs.ZoneList.{SetHolds}
use Rattle.tre_zoneset.specs.ZoneSet.{FoundHolds}
use Rattle.tre_zoneset.proofs.Unions.{FoundHolds-exact}
use Rattle.tre_star.proofs.OneWay.{begun_made}
use Rattle.tre_star.proofs.Short.{Lasting-exact}
use Rattle.tre_star.proofs.one_way.begin_with.Goals as goal

pub returns : goal.returns
returns c =
    let D = LastsUpTo c.args.longest in
    let step = ZoneHolds c.args.step.now in
    let found = c.compose.result in
    let alone = Composed step (ZoneHolds c.args.instants.now) in
    begun_made c.gather_each.new.found.items c.gather_up_to.new.found.items
    (Lasting D (Composed step (SetHolds c.args.last.now))) (Lasting D (FoundHolds found))
    (Lasting D alone) (rw c.clear.ensures.items at c.in_ok-gather_each.ensures)
    c.in_ok-gather_up_to.ensures
    (Lasting-exact D (FoundHolds found) alone
    (FoundHolds-exact found alone c.compose.ensures.pairs))
