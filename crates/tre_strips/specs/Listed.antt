-- The order in which the strips of a set of pairs are listed.
use Rattle.std.specs.Prelude.{List, [], ◌∷◌, ℤ, neg_ℤ}
use Rattle.std.specs.Cmp.Lexicographic.{slice_cmp}
use Rattle.std.specs.List.Sorted.{IsSortedByKey}
use Rattle.std.specs.Ordering.{int_cmp}
use Rattle.std.specs.declared.cmp.Ordering.{Ordering}
use Rattle.tre_zone.specs.ZoneList.{IsApart, AreTight}
use Rattle.tre_zone.specs.declared.zone_bounds.ZoneBounds.{ZoneBounds}

-- The numbers by which lines are ordered.
abbrev pub line_key : ZoneBounds → List ℤ
line_key zone =
    neg_ℤ zone.begin_low ∷ zone.begin_high ∷ neg_ℤ zone.end_low ∷ zone.end_high
    ∷ neg_ℤ zone.dur_low ∷ zone.dur_high ∷ []

-- The first number that differs decides which of two lines comes first.
abbrev pub compare_lines : ZoneBounds → ZoneBounds → Ordering
compare_lines one other = slice_cmp int_cmp (line_key one) (line_key other)

-- The zones are in the order in which they are printed, none of them is included in another, so
-- each is there once, and each has the tightest bounds.
pub record AreListed (zones : List ZoneBounds) : Type 0 where
  pub rising : IsSortedByKey line_key (slice_cmp int_cmp) zones
  pub apart : IsApart zones
  pub tight : AreTight zones
