use Rattle.std.proofs.Common.{arith, sym, subst, ◌↔◌}
use Rattle.std.proofs.lemmas.Int.{ints}
use Rattle.tre_zone.specs.declared.zone_bounds.ZoneBounds.{ZoneBounds}
use Rattle.tre_zone.specs.Zone.{onward_of, IsCanonical, ZoneHolds, IsOnward}
use Rattle.tre_zone.proofs.Onwards.{onward-canonical, onward-holds}
use Rattle.tre_zone.proofs.ZoneKeys.{zones_same}
use Rattle.tre_zone.proofs.zone.Zone.onward.Goals as goal

pub returns-clause-bounds : goal.returns-clause-bounds
unfolding onward_of
returns-clause-bounds c =
    zones_same _ _ (omega (arith, ints)) (omega (arith, ints)) (omega (arith, ints))
    (omega (arith, ints)) (omega (arith, ints)) (omega (arith, ints))

pub invariant_of-result : goal.invariant_of-result
invariant_of-result c =
    subst IsCanonical (sym (returns-clause-bounds c))
    (onward-canonical c.args.from c.args.to c.requires.rising c.requires.limit)

pub returns-clause-held : goal.returns-clause-held
returns-clause-held c = λ a b n some.
    let P : ZoneBounds → Type 0 = λ z. ZoneHolds z a b n ↔ IsOnward c.args.from c.args.to a b n in
    subst P (sym (returns-clause-bounds c))
    (onward-holds c.args.from c.args.to c.requires.rising a b n some)
