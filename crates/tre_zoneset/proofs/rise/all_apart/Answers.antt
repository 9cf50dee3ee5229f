use Rattle.std.proofs.Common.{refl, subst}
use Rattle.std.proofs.lemmas.List.{take_all}
use Rattle.tre_zoneset.specs.ZoneSet.{IsZoneSet}
use Rattle.tre_zoneset.proofs.Members.{IsZoneSet-empty, IsZoneSet-next}
use Rattle.tre_zoneset.proofs.rise.all_apart.Goals as goal

pub loop-place-init : goal.loop-place-init
loop-place-init c = IsZoneSet-empty

pub loop-place-preserved : goal.loop-place-preserved
loop-place-preserved c =
    IsZoneSet-next c.args.zones.now c.loop-place.place c.index-zones-place.result
    c.index-zones-place-in-loop-place.result c.loop-place-test.true c.index-zones-place.is
    c.index-zones-place-in-loop-place.is c.bounds-bounds.ensures.canonical
    (c.if-not-is_apart_from.ensures refl) c.loop-place.invariant

pub returns : goal.returns
returns c = λ yes.
    subst IsZoneSet (take_all c.loop-place.place c.args.zones.now c.loop-place-test.false)
    c.loop-place.invariant
