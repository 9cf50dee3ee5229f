use Rattle.std.proofs.Common.{arith, sym, subst, ◌↔◌}
use Rattle.std.proofs.lemmas.Int.{ints}
use Rattle.tre_zone.specs.declared.zone_bounds.ZoneBounds.{ZoneBounds}
use Rattle.tre_zone.specs.Zone.{span_of, IsCanonical, ZoneHolds, IsInSpan}
use Rattle.tre_zone.proofs.Spans.{span-canonical, span-holds}
use Rattle.tre_zone.proofs.ZoneKeys.{zones_same}
use Rattle.tre_zone.proofs.zone.Zone.span.Goals as goal

pub returns-clause-bounds : goal.returns-clause-bounds
unfolding span_of
returns-clause-bounds c =
    zones_same _ _ (omega (arith, ints)) (omega (arith, ints)) (omega (arith, ints))
    (omega (arith, ints)) (omega (arith, ints)) (omega (arith, ints))

pub invariant_of-result : goal.invariant_of-result
invariant_of-result c =
    subst IsCanonical (sym (returns-clause-bounds c))
    (span-canonical c.args.begin c.args.end c.requires.rising c.requires.limit)

pub returns-clause-held : goal.returns-clause-held
returns-clause-held c = λ a b n some.
    let P : ZoneBounds → Type 0 = λ z. ZoneHolds z a b n ↔ IsInSpan c.args.begin c.args.end a b n in
    subst P (sym (returns-clause-bounds c))
    (span-holds c.args.begin c.args.end c.requires.rising a b n some)
