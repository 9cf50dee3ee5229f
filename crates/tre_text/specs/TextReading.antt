-- What the bytes of a text trace say.
use Rattle.std.specs.Prelude.{ℕ, ◌+◌, nat_le, nat_lt, Bool, false, ◌&&◌, ◌||◌, ◌==◌, List, [], ◌∷◌, ◌++◌, length, codes, slice_index, Option, None, Some, Result, Ok, Err, if◌then◌else◌}
use Rattle.std.specs.Char.{is_newline}
use Rattle.std.specs.List.{filter, slice_split, list_all, list_any}
use Rattle.std.specs.Str.{bytes_eq}
use Rattle.std.specs.Str.Lines.{strip_carriage_return}
use Rattle.tre_pairs.specs.declared.TheConstants.{TIME_MAX}
use Rattle.tre_parts.specs.Format.{Format, Step, recording_of}
use Rattle.tre_decimal.specs.Decimal.{units_of}
use Rattle.tre_state.specs.Name.{starts_name, continues_name}
use Rattle.tre_trace.specs.Reading.{Recording, Stretch}
use Rattle.tre_trace.specs.declared.fault.TraceKind.{TraceKind}
use Rattle.tre_trace.specs.declared.fault.TraceKind.TheVariants.{BadNumber, Zero, TooLate, BadName}

-- a space is the byte 32, and a tab the byte 9
abbrev pub is_blank : ℕ → Bool
is_blank byte = byte == 32 || byte == 9

-- the fields of some bytes, which runs of spaces and tabs part
abbrev pub fields_among : List ℕ → List (List ℕ)
fields_among bytes = filter (λ part. nat_lt 0 (length part)) (slice_split is_blank bytes)

-- the fields of a line, without the one carriage return at its end, where there is one
abbrev pub fields_of : List ℕ → List (List ℕ)
fields_of line = fields_among (strip_carriage_return line)

-- A comment begins with `#` (the byte 35).
abbrev pub begins_comment : List ℕ → Bool
begins_comment bytes = slice_index bytes 0 == 35

-- A line of events begins with `@`, which is a field of its own.
abbrev pub begins_events : List ℕ → Bool
begins_events bytes = bytes_eq bytes (codes "@")

abbrev pub spells_word : List ℕ → Bool
spells_word [] = false
spells_word (first ∷ rest) = starts_name first && list_all continues_name rest

abbrev pub is_among : List (List ℕ) → List ℕ → Bool
is_among fields name = list_any (λ field. bytes_eq field name) fields

-- What later lines need to know of the earlier ones: when the trace so far ends, and the names that
-- were said behind its last stretch, each of which happens where the next one begins.
pub record Past : Type 0 where
  pub end : ℕ
  pub said : List (List ℕ)

abbrev pub past_at : ℕ → List (List ℕ) → Past
past_at end said = record { end = end; said = said }

abbrev pub no_stretch : Past → Step Past
no_stretch past = record { stretches = []; state = past }

-- The stretch of this length on which the fields are true. What was said happens at its begin.
abbrev pub stretch_with : ℕ → List (List ℕ) → List (List ℕ) → Stretch
stretch_with len fields said = record {
  len = len;
  is_true = is_among fields;
  happens = is_among said;
}

abbrev pub one_stretch : Past → ℕ → List (List ℕ) → Step Past
one_stretch past len fields = record {
  stretches = stretch_with len fields past.said ∷ [];
  state = past_at (past.end + len) [];
}

abbrev pub entry_says : Past → Option ℕ → List (List ℕ) → Result (Step Past) TraceKind
entry_says past None fields = Err BadNumber
entry_says past (Some len) fields =
    if len == 0 then Err Zero
    else (if nat_le (past.end + len) TIME_MAX
    then (if list_all spells_word fields then Ok (one_stretch past len fields) else Err BadName)
    else Err TooLate)

-- What a line of events says on which these fields stand: those that happen, besides those that
-- were said before.
abbrev pub events_say : Past → List (List ℕ) → Result (Step Past) TraceKind
events_say past fields =
    if list_all spells_word fields
    then Ok (no_stretch (past_at past.end (past.said ++ fields)))
    else Err BadName

-- What fields say: none and a comment say nothing; behind `@` stand the names of events; else the
-- first is a duration, and the others are the names of what is true.
abbrev pub fields_say : ℕ → Past → List (List ℕ) → Result (Step Past) TraceKind
fields_say scale past [] = Ok (no_stretch past)
fields_say scale past (first ∷ fields) =
    if begins_comment first then Ok (no_stretch past)
    else (if begins_events first then events_say past fields
    else entry_says past (units_of scale first) fields)

unfoldable pub line_says : ℕ → Past → List ℕ → Result (Step Past) TraceKind
line_says scale past line = fields_say scale past (fields_of line)

-- The text format, where durations have this scale: lines, of which each later one needs to know
-- when the trace so far ends and which names were said since. A fault is told with the number of
-- its line, and the input may end anywhere.
abbrev pub text_format : ℕ → Format Past
text_format scale = record {
  separates = is_newline;
  start = past_at 0 [];
  place = λ spot. spot.number;
  says = line_says scale;
  at_end = λ past. None;
  last = λ past. is_among past.said;
  time = λ past. past.end;
}

-- What the bytes say, whoever asks: lines are numbered from 1.
abbrev pub text_recording : ℕ → Bool → List ℕ → Recording
text_recording scale closed bytes = recording_of (text_format scale) closed bytes
