-- What a row is for the names of a reader, whose columns these are.
use Rattle.std.specs.Prelude.{◌≡◌, ℕ, ◌+◌, ◌*◌, nat_lt, ◌==◌, Bool, true, false, not, Option, Some, None, List, [], ◌∷◌, length, map, filter, Result, Ok, Err, option_and_then, option_map, if◌then◌else◌}
use Rattle.std.specs.List.{list_all, list_any}
use Rattle.std.specs.Option.{is_some, ok_or, option_map_or}
use Rattle.tre_trace.specs.Reading.{Recording, Vocabulary}
use Rattle.tre_trace.specs.Segments.{plain_segment}
use Rattle.tre_trace.specs.declared.segment.Segment.{Segment}
use Rattle.tre_trace.specs.declared.fault.TraceKind.{TraceKind}
use Rattle.tre_trace.specs.declared.fault.TraceKind.TheVariants.{BadNumber, CutShort}
use Rattle.tre_num.specs.declared.column.Column.{Column}
use Rattle.tre_num.specs.declared.column.Layout.{Layout}
use Rattle.tre_num.specs.Durations.{duration_says}
use Rattle.tre_num.specs.Rows.{ColumnTerms, are_whole, compared, compared_column, rows_from, told_by}

-- What a table is read by, and for which names.
pub record TableTerms : Type 0 where
  pub terms : ColumnTerms
  pub names : Vocabulary

-- ---- columns

-- This column, if it is one, stands at the place.
abbrev pub stands_at : ℕ → Option Column → Bool
stands_at place column = option_map_or (λ column. column.place == place) column false

-- those of all columns at whose places none of its own stands
abbrev pub others_of : List (Option Column) → List Column → List Column
others_of own all = filter (λ column. not (list_any (stands_at column.place) own)) all

-- ---- a row

-- The comparison of a column, if it is one, holds of a row.
abbrev pub holds_in : List (List ℕ) → Option Column → Bool
holds_in fields column =
    option_map_or (λ told. told) (option_and_then (λ column. told_by column fields) column) false

-- The valuation of a row: the comparison of the first name is the lowest bit.
abbrev pub valuation_of : List (Option Column) → List (List ℕ) → ℕ
valuation_of [] fields = 0
valuation_of (column ∷ columns) fields =
    (if holds_in fields column then 1 else 0) + 2 * valuation_of columns fields

-- A column, if it is one, has a whole number in a row.
abbrev pub is_whole_in : List (List ℕ) → Option Column → Bool
is_whole_in fields column = option_map_or (λ column. is_some (told_by column fields)) column true

-- the columns that must still be judged, once those of its own were
abbrev pub judged_of : Layout → List (List ℕ) → List Column
judged_of layout fields =
    if list_all (is_whole_in fields) layout.own.items then layout.others.items
    else layout.all.items

-- the valuation of a row, where all fields are whole numbers
abbrev pub valuation_in : Layout → List (List ℕ) → Option ℕ
valuation_in layout fields =
    if are_whole (judged_of layout fields) fields
    then Some (valuation_of layout.own.items fields) else None

-- a segment of this length and valuation, where there are both
abbrev pub segment_of : Result ℕ TraceKind → Option ℕ → Result Segment TraceKind
segment_of (Err kind) valuation = Err kind
segment_of (Ok len) valuation = ok_or (option_map (plain_segment len) valuation) BadNumber

-- the segment of a row behind a trace that ends at `end`
abbrev pub row_gives : Layout → ℕ → List (List ℕ) → Result Segment TraceKind
row_gives layout end fields =
    if nat_lt (length fields) layout.width then Err CutShort
    else segment_of (duration_says layout.scale end fields) (valuation_in layout fields)

-- The rows of a table stand under this header.
pub record IsUnder (by : TableTerms) (header : List (List ℕ)) (layout : Layout) : Type 0 where
  pub all_are : compared by.terms header ≡ Some layout.all.items
  pub own_are : layout.own.items ≡ map (compared_column by.terms.definitions header) by.names.names
  pub others_are : layout.others.items ≡ others_of layout.own.items layout.all.items
  pub width_is : length header ≡ layout.width
  pub scale_is : by.terms.scale ≡ layout.scale

-- what the rows behind it say
abbrev pub rows_under : TableTerms → List (List ℕ) → Layout → List (List (List ℕ)) → Recording
rows_under by header layout rows = rows_from by.terms header layout.all.items 2 rows 0
