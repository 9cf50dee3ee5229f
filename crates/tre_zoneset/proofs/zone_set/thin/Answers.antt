use Rattle.std.proofs.Common.{List, subst}
use Rattle.std.proofs.lemmas.List.{take_all}
use Rattle.tre_zone.specs.declared.zone_bounds.ZoneBounds.{ZoneBounds}
use Rattle.tre_zoneset.specs.ZoneSet.{IsThinned}
use Rattle.tre_zoneset.proofs.Thinning.{IsThinned-empty, IsThinned-next}
use Rattle.tre_zoneset.proofs.zone_set.thin.Goals as goal

pub loop-zone-init : goal.loop-zone-init
loop-zone-init c = rw c.new-kept.ensures IsThinned-empty

pub loop-zone-preserved : goal.loop-zone-preserved
loop-zone-preserved c =
    IsThinned-next c.args.zones.now c.loop-zone.kept c.keep.new.kept c.loop-zone.zone-index
    c.zone-item.result c.loop-zone-test.true c.zone-item.is c.loop-zone.invariant
    c.in_ok-keep.ensures

pub returns : goal.returns
returns c =
    rw c.into_items.ensures
    (subst (λ (list : List ZoneBounds). IsThinned list c.loop-zone.kept)
    (take_all c.loop-zone.zone-index c.args.zones.now c.loop-zone-test.false)
    c.loop-zone.invariant)
