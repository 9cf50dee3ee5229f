-- What comma-separated rows say of a trace.
use Rattle.std.specs.Prelude.{ℕ, ◌+◌, nat_lt, nat_le, ◌==◌, Bool, true, false, Option, Some, None, List, [], ◌∷◌, length, drop, flat_map, Result, Ok, Err, option_and_then, option_map, if◌then◌else◌, slice_get}
use Rattle.std.specs.List.{list_all, position_from}
use Rattle.std.specs.Option.{is_some, option_map_or}
use Rattle.std.specs.Str.{bytes_eq}
use Rattle.tre_pairs.specs.declared.TheConstants.{TIME_MAX}
use Rattle.tre_decimal.specs.Decimal.{units_of}
use Rattle.tre_trace.specs.Reading.{Recording, Stretch, Vocabulary}
use Rattle.tre_trace.specs.declared.fault.TraceKind.{TraceKind}
use Rattle.tre_trace.specs.declared.fault.TraceKind.TheVariants.{BadNumber, Zero, TooLate, UnknownName, CutShort}
use Rattle.tre_parts.specs.Format.{nothing, faulty, behind}
use Rattle.tre_num.specs.declared.column.Column.{Column}
use Rattle.tre_define.specs.Comparison.{compares}
use Rattle.tre_define.specs.Texts.{named}
use Rattle.tre_num.specs.Defined.{Defined, name_of_let}
use Rattle.tre_num.specs.Records.{records_of}
use Rattle.tre_num.specs.Whole.{whole_of}

-- ---- the columns of names

-- the first definition of a name
abbrev pub definition_of : List Defined → List ℕ → Option Defined
definition_of definitions name = named name_of_let definitions name

-- The place of the first column of a name in the header, whose first field names no column.
abbrev pub place_in : List (List ℕ) → List ℕ → Option ℕ
place_in header name = position_from (λ field. bytes_eq field name) 1 (drop 1 header)

-- what a definition compares, where the header has its column
abbrev pub column_in : List (List ℕ) → Defined → Option Column
column_in header defined =
    option_map (λ place. record {
      place = place;
      comparison = defined.comparison;
      value = defined.value;
    }) (place_in header defined.column)

-- what a name compares, where it is defined and the header has its column
abbrev pub compared_column : List Defined → List (List ℕ) → List ℕ → Option Column
compared_column definitions header name =
    option_and_then (column_in header) (definition_of definitions name)

-- What the names compare, in their order; none where one of them isn't defined or has no column.
abbrev pub columns_of : List Defined → List (List ℕ) → List (List ℕ) → Option (List Column)
columns_of definitions header [] = Some []
columns_of definitions header (name ∷ names) =
    option_and_then
    (λ column. option_map (λ others. column ∷ others) (columns_of definitions header names))
    (compared_column definitions header name)

-- ---- a row

-- whether a comparison holds of a row; none where its field is no whole number
abbrev pub told_by : Column → List (List ℕ) → Option Bool
told_by column fields =
    option_map (λ number. compares column.comparison number column.value)
    (option_and_then whole_of (slice_get fields column.place))

-- Whether the comparison of a name holds of a row: not where its field is no whole number.
abbrev pub told_as : List Defined → List (List ℕ) → List (List ℕ) → List ℕ → Bool
told_as definitions header fields name =
    option_map_or (λ told. told)
    (option_and_then (λ column. told_by column fields) (compared_column definitions header name))
    false

-- Each of these columns has a whole number in the row.
abbrev pub are_whole : List Column → List (List ℕ) → Bool
are_whole columns fields = list_all (λ column. is_some (told_by column fields)) columns

-- a stretch of this length on which these names are true, and at whose begin none happens
abbrev pub plain_stretch : ℕ → (List ℕ → Bool) → Stretch
plain_stretch len is_true = record { len = len; is_true = is_true; happens = λ name. false }

-- So many units behind `end`, on which these names are true, where all fields are whole numbers.
abbrev pub stretch_says : ℕ → Option ℕ → Bool → (List ℕ → Bool) → Result Stretch TraceKind
stretch_says end None whole is_true = Err BadNumber
stretch_says end (Some len) whole is_true =
    if len == 0 then Err Zero
    else (if nat_le (end + len) TIME_MAX
    then (if whole then Ok (plain_stretch len is_true) else Err BadNumber) else Err TooLate)

-- What a recording hangs on; a field of one of the declared names that is no whole number is a
-- fault, whoever reads it.
pub record ColumnTerms : Type 0 where
  pub definitions : List Defined
  pub declared : List Vocabulary
  pub scale : ℕ

-- What a row says behind `end`. Its first field is a decimal: how long it lasts.
abbrev pub row_says : ColumnTerms → List (List ℕ) → List Column → ℕ → List (List ℕ)
    → Result Stretch TraceKind
row_says terms header columns end fields =
    if nat_lt (length fields) (length header) then Err CutShort
    else stretch_says end (option_and_then (units_of terms.scale) (slice_get fields 0))
    (are_whole columns fields) (told_as terms.definitions header fields)

-- ---- all rows

-- a fault ends the recording; behind a stretch it goes on
abbrev pub says_on : ℕ → ℕ → Result Stretch TraceKind → (ℕ → Recording) → Recording
says_on number end (Err kind) more = faulty number kind
says_on number end (Ok stretch) more = behind (stretch ∷ []) (more (end + stretch.len))

-- what rows say, the first of which is the record of this number
abbrev pub rows_from : ColumnTerms → List (List ℕ) → List Column → ℕ → List (List (List ℕ)) → ℕ
    → Recording
rows_from terms header columns number [] end = nothing
rows_from terms header columns number (row ∷ rows) end =
    says_on number end (row_says terms header columns end row)
    (rows_from terms header columns (number + 1) rows)

-- The rows behind a header, where each name has its column.
abbrev pub under_header : ColumnTerms → List (List ℕ) → Option (List Column) → List (List (List ℕ))
    → Recording
under_header terms header None rows = faulty 1 UnknownName
under_header terms header (Some columns) rows = rows_from terms header columns 2 rows 0

-- The columns of all names: none where there is an event, since rows tell of none.
abbrev pub compared : ColumnTerms → List (List ℕ) → Option (List Column)
compared terms header =
    if list_all (λ asked. length asked.events == 0) terms.declared
    then columns_of terms.definitions header (flat_map (λ asked. asked.names) terms.declared)
    else None

-- records: a header and rows; without a record there is no column
abbrev pub table_says : ColumnTerms → List (List (List ℕ)) → Recording
table_says terms [] = under_header terms [] (compared terms []) []
table_says terms (header ∷ rows) = under_header terms header (compared terms header) rows

-- What bytes say of a trace: nothing while more may come, and then what their records say.
abbrev pub rows_recording : ColumnTerms → Bool → List ℕ → Recording
rows_recording terms false bytes = nothing
rows_recording terms true bytes =
    table_says terms (records_of bytes)
