-- The lines of zones, from the last to the first.
use Rattle.std.proofs.Common.{◌≡◌, ℕ, suc, ◌+◌, ◌-◌, ◌<◌, ◌≤◌, List, [], ◌++◌, length, take, drop, get_or, sym, ap, ◌∙◌, arith, rules}
use Rattle.std.proofs.lemmas.List.{drop_more}
use Rattle.std.specs.List.{slice_range}
use Rattle.tre_zone.specs.declared.zone_bounds.ZoneBounds.{ZoneBounds}
use Rattle.tre_show.specs.Line.{line_of, lines_of}

pub lines_none : (scale : ℕ) (zones : List ZoneBounds) (place : ℕ)
    → lines_of scale (slice_range zones place place) ≡ []
unfolding lines_of
lines_none scale zones place = search rules

-- The line of one zone, and of those behind it.
pub lines_before : (scale : ℕ) (zones : List ZoneBounds) (place to : ℕ) (zone : ZoneBounds)
    → place < to → to ≤ length zones → zone ≡ get_or zones place zone
    → lines_of scale (slice_range zones place to)
    ≡ line_of scale zone ++ lines_of scale (slice_range zones (place + 1) to)
unfolding lines_of
lines_before scale zones place to zone before within is =
    let rest = to - (place + 1) in
    let count : to - place ≡ suc rest = omega (arith, before) in
    ap (λ count. lines_of scale (take count (drop place zones))) count
    ∙ ap (λ all. lines_of scale (take (suc rest) all))
    (drop_more zones place zone (omega (arith, before, within)))
    ∙ ap (λ (z : ZoneBounds). line_of scale z ++ lines_of scale (slice_range zones (place + 1) to))
    (sym is)
