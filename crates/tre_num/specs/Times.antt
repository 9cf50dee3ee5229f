-- What rows say is a trace, and stays when more bytes come.
use Rattle.std.proofs.Common.{◌≡◌, slice_get, ℕ, ◌+◌, ◌≤◌, nat_le, nat_lt, ◌==◌, Bool, true, false, List, [], ◌∷◌, ◌++◌, length, Option, None, Some, Result, Ok, Err, IfOk, refl, arith, if◌then◌else◌}
use Rattle.std.specs.Option.{option_and_then}
use Rattle.std.proofs.lemmas.Bool.Decides.{nat_tests}
use Rattle.tre_pairs.specs.declared.TheConstants.{TIME_MAX}
use Rattle.tre_decimal.specs.Decimal.{units_of}
use Rattle.tre_num.specs.declared.column.Column.{Column}
use Rattle.tre_num.specs.Records.{records_of}
use Rattle.tre_num.specs.Rows.{ColumnTerms, are_whole, compared, plain_stretch, row_says, rows_from, rows_recording, says_on, stretch_says, table_says, told_as, under_header}
use Rattle.tre_trace.specs.Reading.{Grows, Recording, Stretch, Vocabulary, segments_for}
use Rattle.tre_trace.specs.Trace.{AreLong, IsTrace, end_of}
use Rattle.tre_trace.specs.declared.fault.TraceKind.{TraceKind}
use Rattle.tre_trace.specs.declared.fault.TraceKind.TheVariants.{BadNumber, CutShort, TooLate, Zero}
use Rattle.tre_trace.specs.declared.segment.Segment.{Segment}

-- The length fits behind a trace that ends at `end`.
record FitsAt (end len : ℕ) : Type 0 where
  long : 1 ≤ len
  in_time : end + len ≤ TIME_MAX

stretch-fits : (end : ℕ) (units : Option ℕ) (whole : Bool) (is_true : List ℕ → Bool)
    → IfOk (stretch_says end units whole is_true) (λ stretch. FitsAt end stretch.len)
stretch-fits end None whole is_true = tt
stretch-fits end (Some len) whole is_true =
    by (len == 0) refl (nat_le (end + len) TIME_MAX) refl whole
  where
    by : (none : Bool) → (len == 0) ≡ none → (early : Bool) → nat_le (end + len) TIME_MAX ≡ early
        → (whole : Bool)
        → IfOk (if none then Err Zero else (if early
        then (if whole then Ok (plain_stretch len is_true) else Err BadNumber) else Err TooLate))
        (λ stretch. FitsAt end stretch.len)
    by true e early f whole = tt
    by false e false f whole = tt
    by false e true f false = tt
    by false e true f true =
        record { long = grind (arith, nat_tests); in_time = grind (arith, nat_tests) }

-- The segments stand behind a trace that ends at `end`.
record SegmentsFollow (end : ℕ) (segments : List Segment) : Type 0 where
  long : AreLong segments
  in_time : end ≤ TIME_MAX → end_of end segments ≤ TIME_MAX

module _ (asked : Vocabulary) where
  says-follows : (number end : ℕ) (said : Result Stretch TraceKind) (more : ℕ → Recording)
      → IfOk said (λ stretch. FitsAt end stretch.len)
      → ((now : ℕ) → SegmentsFollow now (segments_for asked (more now).stretches))
      → SegmentsFollow end (segments_for asked (says_on number end said more).stretches)
  says-follows number end (Err kind) more fits later = record { long = tt; in_time = λ h. h }
  says-follows number end (Ok stretch) more fits later =
      let behind = later (end + stretch.len) in
      record { long = (fits.long, behind.long); in_time = λ _. behind.in_time fits.in_time }

  module _ (terms : ColumnTerms) (header : List (List ℕ)) where
    row-fits : (columns : List Column) (end : ℕ) (fields : List (List ℕ))
        → IfOk (row_says terms header columns end fields) (λ stretch. FitsAt end stretch.len)
    row-fits columns end fields = by (nat_lt (length fields) (length header)) where
      by : (short : Bool) → IfOk (if short then Err CutShort
          else stretch_says end (option_and_then (units_of terms.scale) (slice_get fields 0))
          (are_whole columns fields) (told_as terms.definitions header fields))
          (λ stretch. FitsAt end stretch.len)
      by true = tt
      by false = stretch-fits end (option_and_then (units_of terms.scale) (slice_get fields 0))
          (are_whole columns fields) (told_as terms.definitions header fields)

    rows-follow : (columns : List Column) (number : ℕ) (rows : List (List (List ℕ))) (end : ℕ)
        → SegmentsFollow end (segments_for asked (rows_from terms header columns number rows
        end).stretches)
    rows-follow columns number [] end = record { long = tt; in_time = λ h. h }
    rows-follow columns number (row ∷ rows) end =
        says-follows number end (row_says terms header columns end row)
        (rows_from terms header columns (number + 1) rows) (row-fits columns end row)
        (rows-follow columns (number + 1) rows)

    under-is_trace : (columns : Option (List Column)) (rows : List (List (List ℕ)))
        → IsTrace (segments_for asked (under_header terms header columns rows).stretches)
    under-is_trace None rows = record { long = tt; in_time = omega arith }
    under-is_trace (Some columns) rows =
        let follows = rows-follow columns 2 rows 0 in
        record { long = follows.long; in_time = follows.in_time (omega arith) }

  table-is_trace : (terms : ColumnTerms) (rows : List (List (List ℕ)))
      → IsTrace (segments_for asked (table_says terms rows).stretches)
  table-is_trace terms [] = under-is_trace terms [] (compared terms []) []
  table-is_trace terms (header ∷ rows) = under-is_trace terms header (compared terms header) rows

pub rows-are_trace : (terms : ColumnTerms) (asked : Vocabulary) (closed : Bool) (bytes : List ℕ)
    → IsTrace (segments_for asked (rows_recording terms closed bytes).stretches)
rows-are_trace terms asked false bytes = record { long = tt; in_time = omega arith }
rows-are_trace terms asked true bytes =
    table-is_trace asked terms (records_of bytes)

pub rows-start : (terms : ColumnTerms) → (rows_recording terms false []).stretches ≡ []
rows-start terms = refl

pub rows-grow : (terms : ColumnTerms) (closed : Bool) (first more : List ℕ)
    → Grows (rows_recording terms false first) (rows_recording terms closed (first ++ more))
rows-grow terms closed first more = record {
  added = (rows_recording terms closed (first ++ more)).stretches;
  stretches = refl;
  fault = λ fault is. cc;
}
