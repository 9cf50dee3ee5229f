use Rattle.std.proofs.Common.{sym, subst, Some, rules}
use Rattle.tre_zone.specs.Zone.{IsCanonical}
use Rattle.tre_zone.specs.declared.zone_bounds.ZoneBounds.{ZoneBounds}
use Rattle.tre_strips.specs.Profiles.{IsBarOf}
use Rattle.tre_strips.proofs.Comparing.{Narrows-trans}
use Rattle.tre_strips.proofs.ZoneBars.{IsBarOf-outside, IsBarOf-empty, IsBarOf-some}
use Rattle.tre_strips.proofs.profiles.bar_of.Goals as goal

pub returns-then-not-begins-clause-bar : goal.returns-then-not-begins-clause-bar
returns-then-not-begins-clause-bar c =
    search (rules, IsBarOf-outside, c.bounds-bounds.ensures.same, c.begins.new.times)

pub returns-then-is_before-clause-bar : goal.returns-then-is_before-clause-bar
returns-then-is_before-clause-bar c =
    let same = c.bounds-bounds.ensures.same in
    let late = c.is_before.ensures.narrowed in
    let mid = Narrows-trans _ _ _ c.earlier-high.ensures.narrowed late in
    let early = Narrows-trans _ _ _ c.later-low.ensures.narrowed mid in
    subst (λ (zone : ZoneBounds). IsBarOf c.is_before.new.self zone (Some (record
    { low = c.later-low.result; high = c.earlier-high.result }))) same
    (IsBarOf-some c.begins.new.times c.later-low.new.times c.earlier-high.new.times
    c.is_before.new.self c.bounds-bounds.result _
    (subst IsCanonical (sym same) c.bounds-bounds.ensures.canonical) early mid late
    c.if-not-begins.ensures.told
    (rw (c.low_end.ensures, c.low_end-2.ensures) at c.later-low.ensures.later)
    (rw (c.high_end.ensures, c.high_end-2.ensures) at c.earlier-high.ensures.earlier)
    c.if-is_before.ensures.told)

pub returns-else-is_before-clause-bar : goal.returns-else-is_before-clause-bar
returns-else-is_before-clause-bar c =
    search (rules, Narrows-trans, IsBarOf-empty, c.bounds-bounds.ensures.same, c.is_before.new.self)
