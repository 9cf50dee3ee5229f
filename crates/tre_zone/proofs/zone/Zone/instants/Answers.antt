use Rattle.std.proofs.Common.{sym, subst, ◌↔◌, rules}
use Rattle.tre_zone.specs.declared.zone_bounds.ZoneBounds.{ZoneBounds}
use Rattle.tre_zone.specs.Zone.{instants_of, IsCanonical, ZoneHolds, IsInstantBetween}
use Rattle.tre_zone.proofs.Instants.{instants-canonical, instants-holds}
use Rattle.tre_zone.proofs.ZoneKeys.{zones_same}
use Rattle.tre_zone.proofs.zone.Zone.instants.Goals as goal

pub returns-clause-bounds : goal.returns-clause-bounds
unfolding instants_of
returns-clause-bounds c = search (rules, zones_same)

pub invariant_of-result : goal.invariant_of-result
invariant_of-result c =
    subst IsCanonical (sym (returns-clause-bounds c))
    (instants-canonical c.args.from c.args.to c.requires.rising c.requires.limit)

pub returns-clause-held : goal.returns-clause-held
returns-clause-held c = λ a b n some.
    let P : ZoneBounds → Type 0 = λ z. ZoneHolds z a b n ↔ IsInstantBetween c.args.from c.args.to a
    b n in
    subst P (sym (returns-clause-bounds c)) (instants-holds c.args.from c.args.to a b n some)
