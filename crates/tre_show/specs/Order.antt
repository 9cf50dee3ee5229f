-- The order in which the lines of zones are printed.
use Rattle.std.specs.Prelude.{◌≡◌, ◌<◌, ◌⊎◌, ℕ, true, false, Some, List, [], ◌∷◌, ℤ, neg_ℤ}
use Rattle.std.specs.Cmp.Lexicographic.{slice_cmp}
use Rattle.std.specs.List.Sorted.{IsSortedByKey}
use Rattle.std.specs.Ordering.{int_cmp}
use Rattle.std.specs.declared.cmp.Ordering.{Ordering}
use Rattle.tre_zone.specs.Interval.{IntervalEnds}
use Rattle.tre_zone.specs.Ranges.{begin_range, end_range, duration_range}
use Rattle.tre_zone.specs.declared.zone_bounds.ZoneBounds.{ZoneBounds}

-- The numbers by which lines are ordered, from the first: a smaller begin comes first, and of two
-- equal ends an included low end comes before an excluded one.
abbrev pub sort_key : ZoneBounds → List ℤ
sort_key zone =
    neg_ℤ zone.begin_low ∷ zone.begin_high ∷ neg_ℤ zone.end_low ∷ zone.end_high
    ∷ neg_ℤ zone.dur_low ∷ zone.dur_high ∷ []

-- The first number that differs decides which of two lines comes first.
abbrev pub compare_lines : ZoneBounds → ZoneBounds → Ordering
compare_lines one other = slice_cmp int_cmp (sort_key one) (sort_key other)

-- The zones are in the order in which they are printed: the first number that differs decides.
unfoldable pub IsRising : List ZoneBounds → Type 0
IsRising zones = IsSortedByKey sort_key (slice_cmp int_cmp) zones

-- The low end is smaller than that of the other, or the same and in its interval alone.
abbrev pub LowComesBefore : IntervalEnds → IntervalEnds → Type 0
LowComesBefore one other =
    (one.low < other.low)
    ⊎ ((one.low ≡ other.low) × (one.low_weak ≡ true) × (other.low_weak ≡ false))

-- The high end is smaller than that of the other, or the same and in the other interval alone.
abbrev pub HighComesBefore : IntervalEnds → IntervalEnds → Type 0
HighComesBefore one other =
    (high other_high : ℕ) → one.high ≡ Some high → other.high ≡ Some other_high →
    (high < other_high)
    ⊎ ((high ≡ other_high) × (one.high_weak ≡ false) × (other.high_weak ≡ true))

-- The range comes before the other: by its low end, or where that is the same by its high end.
abbrev pub RangeComesBefore : IntervalEnds → IntervalEnds → Type 0
RangeComesBefore one other =
    LowComesBefore one other
    ⊎ ((one.low ≡ other.low) × (one.low_weak ≡ other.low_weak) × HighComesBefore one other)

-- The line of the zone is printed before that of the other: the first of its three ranges that
-- differs comes before.
abbrev pub LineComesBefore : ZoneBounds → ZoneBounds → Type 0
LineComesBefore zone other =
    RangeComesBefore (begin_range zone) (begin_range other)
    ⊎ (((begin_range zone ≡ begin_range other)
    × RangeComesBefore (end_range zone) (end_range other))
    ⊎ ((begin_range zone ≡ begin_range other) × (end_range zone ≡ end_range other)
    × RangeComesBefore (duration_range zone) (duration_range other)))
