-- Zones as they are printed, and the texts of what is told of several patterns at once.
use Rattle.std.specs.Prelude.{◌≡◌, ◌↔◌, ℕ, Some, slice_get, List, [], ◌∷◌, ◌++◌, codes, IsPermutation}
use Rattle.std.specs.List.{AllZip}
use Rattle.tre_decimal.specs.Decimal.{number_text}
use Rattle.tre_show.specs.Order.{IsRising}
use Rattle.tre_zone.specs.ZoneList.{SetHolds, IsApart, AreTight}
use Rattle.tre_zone.specs.declared.zone_bounds.ZoneBounds.{ZoneBounds}
use Rattle.tre_tell.specs.Blocks.{lines_with}

-- The zones that were told, in the order in which they are printed.
pub record IsPrinted (told zones : List ZoneBounds) : Type 0 where
  pub same : IsPermutation told zones
  pub held : (a b n : ℕ) → SetHolds zones a b n ↔ SetHolds told a b n
  pub apart : IsApart zones
  pub tight : AreTight zones
  pub rising : IsRising zones

-- the lines of lists of zones, those of each behind the label at its place
abbrev pub lines_behind : ℕ → List (List ℕ) → List (List ZoneBounds) → List ℕ
lines_behind scale (label ∷ labels) (zones ∷ lists) =
    lines_with scale label zones ++ lines_behind scale labels lists
lines_behind scale labels lists = []

-- the line of a time behind a word
abbrev pub time_line : ℕ → List ℕ → ℕ → List ℕ
time_line scale word time = word ++ number_text scale time ++ codes "\n"

-- The text is the lines of what was told, each behind the label, and then what stood there before.
pub record IsSetPut (scale : ℕ) (label : List ℕ) (told : List ZoneBounds) (before text : List ℕ)
    : Type 0 where
  pub zones : List ZoneBounds
  pub printed : IsPrinted told zones
  pub is_text : text ≡ lines_with scale label zones ++ before

-- The same of what was told of the pattern at the place.
pub record IsToldPut (scale : ℕ) (label : List ℕ) (told : List (List ZoneBounds)) (place : ℕ)
    (before text : List ℕ) : Type 0 where
  pub set : List ZoneBounds
  pub at : slice_get told place ≡ Some set
  pub put : IsSetPut scale label set before text

-- The text is the lines of what was told of each pattern, and then those behind them.
pub record IsTextOf (scale : ℕ) (labels : List (List ℕ)) (told : List (List ZoneBounds))
    (line text : List ℕ) : Type 0 where
  pub printed : List (List ZoneBounds)
  pub are : AllZip IsPrinted told printed
  pub is_text : text ≡ lines_behind scale labels printed ++ line
