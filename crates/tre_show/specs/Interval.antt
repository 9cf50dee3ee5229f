-- The text of an interval of times or durations, whose numbers are units of a scale.
use Rattle.std.specs.Prelude.{ℕ, Bool, Option, Some, None, List, ◌++◌, codes}
use Rattle.std.specs.Prelude.{if◌then◌else◌}
use Rattle.tre_decimal.specs.Decimal.{number_text}
use Rattle.tre_zone.specs.Interval.{IntervalEnds}

-- The lower end: a square bracket includes it, a round one excludes it.
abbrev pub lower_text : ℕ → ℕ → Bool → List ℕ
lower_text scale low weak =
    (if weak then codes "[" else codes "(") ++ number_text scale low ++ codes ","

-- The upper end, or `inf` where there is none.
abbrev pub upper_text : ℕ → Option ℕ → Bool → List ℕ
upper_text scale None weak = codes "inf)"
upper_text scale (Some high) weak =
    number_text scale high ++ (if weak then codes "]" else codes ")")

abbrev pub interval_text : ℕ → IntervalEnds → List ℕ
interval_text scale ends =
    lower_text scale ends.low ends.low_weak ++ upper_text scale ends.high ends.high_weak
