-- What a row is for the names of a reader is what it says, for these names.
use Rattle.std.proofs.Common.{◌≡◌, slice_get, ℕ, ◌+◌, ◌*◌, nat_le, nat_lt, ◌==◌, Bool, true, false, List, [], ◌∷◌, length, map, Option, None, Some, Result, Ok, Err, refl, sym, ap, ◌∙◌, if◌then◌else◌}
use Rattle.std.specs.Option.{option_and_then}
use Rattle.std.specs.Result.{result_map_both}
use Rattle.tre_pairs.specs.declared.TheConstants.{TIME_MAX}
use Rattle.tre_decimal.specs.Decimal.{units_of}
use Rattle.tre_num.specs.Defined.{Defined}
use Rattle.tre_num.specs.Durations.{units_say}
use Rattle.tre_num.specs.Rows.{are_whole, compared_column, plain_stretch, row_says, stretch_says, told_as}
use Rattle.tre_num.specs.Told.{IsUnder, TableTerms, row_gives, segment_of, valuation_in, valuation_of}
use Rattle.tre_num.specs.declared.column.Layout.{Layout}
use Rattle.tre_num.proofs.Judging.{judged-are}
use Rattle.tre_trace.specs.Reading.{Stretch, Vocabulary, bits_of, segment_for}
use Rattle.tre_trace.specs.Segments.{segment_with}
use Rattle.tre_trace.specs.declared.fault.TraceKind.{TraceKind}
use Rattle.tre_trace.specs.declared.fault.TraceKind.TheVariants.{BadNumber, CutShort, TooLate, Zero}
use Rattle.tre_trace.specs.declared.segment.Segment.{Segment}

-- ---- the valuation

-- The valuation by columns is that by names.
valuation-is : (definitions : List Defined) (header fields : List (List ℕ)) (names : List (List ℕ))
    → valuation_of (map (compared_column definitions header) names) fields
    ≡ bits_of (told_as definitions header fields) names
valuation-is definitions header fields [] = refl
valuation-is definitions header fields (name ∷ names) =
    ap (λ higher. (if told_as definitions header fields name then 1 else 0) + 2 * higher)
    (valuation-is definitions header fields names)

-- ---- the segment

pub no-bits : (names : List (List ℕ)) → bits_of (λ name. false) names ≡ 0
no-bits [] = refl
no-bits (name ∷ names) = ap (λ n. 0 + 2 * n) (no-bits names)

abbrev as_segment : Vocabulary → Result Stretch TraceKind → Result Segment TraceKind
as_segment asked said = result_map_both (segment_for asked) (λ kind. kind) said

segment-is : (asked : Vocabulary) (end : ℕ) (units : Option ℕ) (whole : Bool)
    (is_true : List ℕ → Bool)
    → segment_of (units_say end units)
    (if whole then Some (bits_of is_true asked.names) else None)
    ≡ as_segment asked (stretch_says end units whole is_true)
segment-is asked end None whole is_true = refl
segment-is asked end (Some len) whole is_true =
    by (len == 0) (nat_le (end + len) TIME_MAX) whole
  where
    by : (none early whole : Bool)
        → segment_of (if none then Err Zero else (if early then Ok len else Err TooLate))
        (if whole then Some (bits_of is_true asked.names) else None)
        ≡ as_segment asked (if none then Err Zero else (if early
        then (if whole then Ok (plain_stretch len is_true) else Err BadNumber) else Err TooLate))
    by true early whole = refl
    by false false whole = refl
    by false true false = refl
    by false true true =
        ap (λ ev. Ok (segment_with len (bits_of is_true asked.names) ev))
        (sym (no-bits asked.events))

-- What a row is for the names of a table is what it says, for these names.
pub row-is : {by : TableTerms} {header : List (List ℕ)} {layout : Layout}
    → IsUnder by header layout → (end : ℕ) (fields : List (List ℕ))
    → row_gives layout end fields
    ≡ as_segment by.names (row_says by.terms header layout.all.items end fields)
row-is {by} {header} {layout} under end fields =
    ap (λ n. if nat_lt (length fields) n then Err CutShort
    else segment_of (units_say end (option_and_then (units_of layout.scale) (slice_get fields 0)))
    (valuation_in layout fields)) (sym under.width_is)
    ∙ by_length (nat_lt (length fields) (length header))
  where
    test : List ℕ → Bool
    test = told_as by.terms.definitions header fields

    all_whole : Bool
    all_whole = are_whole layout.all.items fields

    valuation : valuation_in layout fields
        ≡ (if all_whole then Some (bits_of test by.names.names) else None)
    valuation =
        ap (λ whole. if whole then Some (valuation_of layout.own.items fields) else None)
        (judged-are layout.own.items layout.all.items layout.others.items fields under.others_are)
        ∙ ap (λ own. if all_whole then Some (valuation_of own fields) else None) under.own_are
        ∙ ap (λ bits. if all_whole then Some bits else None)
        (valuation-is by.terms.definitions header fields by.names.names)

    by_length : (short : Bool)
        → (if short then Err CutShort
        else segment_of
        (units_say end (option_and_then (units_of layout.scale) (slice_get fields 0)))
        (valuation_in layout fields))
        ≡ as_segment by.names (if short then Err CutShort
        else stretch_says end (option_and_then (units_of by.terms.scale) (slice_get fields 0))
        all_whole test)
    by_length true = refl
    by_length false =
        ap (λ valuation. segment_of
        (units_say end (option_and_then (units_of layout.scale) (slice_get fields 0))) valuation)
        valuation
        ∙ segment-is by.names end (option_and_then (units_of layout.scale) (slice_get fields 0))
        all_whole test
        ∙ ap (λ scale. as_segment by.names
        (stretch_says end (option_and_then (units_of scale) (slice_get fields 0)) all_whole test))
        (sym under.scale_is)

-- A row says a stretch, and this is its segment.
pub record Says (asked : Vocabulary) (said : Result Stretch TraceKind) (segment : Segment)
    : Type 0 where
  pub stretch : Stretch
  pub says : said ≡ Ok stretch
  pub is : segment_for asked stretch ≡ segment

pub says-stretch : (asked : Vocabulary) (said : Result Stretch TraceKind) (segment : Segment)
    → as_segment asked said ≡ Ok segment → Says asked said segment
says-stretch asked (Ok stretch) segment is = record { stretch = stretch; says = refl; is = cc }
says-stretch asked (Err kind) segment is = cc

pub says-fault : (asked : Vocabulary) (said : Result Stretch TraceKind) (kind : TraceKind)
    → as_segment asked said ≡ Err kind → said ≡ Err kind
says-fault asked (Ok stretch) kind is = cc
says-fault asked (Err other) kind is = cc
