-- What the tokens of a value change dump say (IEEE Std 1364-2005, clause 18).
use Rattle.std.specs.Prelude.{ℕ, ◌-◌, ◌^◌, min, nat_le, nat_lt, Bool, true, false, not, ◌&&◌, ◌||◌, ◌==◌, List, [], ◌∷◌, ◌++◌, drop, length, filter, Option, None, Some, Result, Ok, Err, codes, slice_index, if◌then◌else◌}
use Rattle.std.specs.List.{list_all, list_any}
use Rattle.std.specs.Str.{bytes_eq}
use Rattle.std.specs.Str.Parse.{digits_value}
use Rattle.std.specs.Option.{is_some, option_map, option_map_or, option_and_then, option_or}
use Rattle.tre_pairs.specs.declared.TheConstants.{TIME_MAX}
use Rattle.tre_decimal.specs.Decimal.{is_numeral}
use Rattle.tre_define.specs.Signals.{SignalDefined, signal_definition_of, part_of_text, test_in, changes_in}
use Rattle.tre_define.specs.Values.{compares_known, number_of_part, passes, plain_test, differ}
use Rattle.tre_define.specs.declared.comparison.Comparison.{Comparison}
use Rattle.tre_define.specs.declared.part.Part.{Part}
use Rattle.tre_define.specs.declared.reads.Reads.{Reads}
use Rattle.tre_define.specs.declared.reads.Reads.TheVariants.{Beside, Changes}
use Rattle.tre_define.specs.declared.test.Test.{Test}
use Rattle.tre_parts.specs.Format.{Format, Step, recording_of}
use Rattle.tre_trace.specs.Reading.{Recording, Stretch, Vocabulary}
use Rattle.tre_trace.specs.declared.fault.TraceKind.{TraceKind}
use Rattle.tre_trace.specs.declared.fault.TraceKind.TheVariants.{TooLate, BadToken, BadScale, UnknownName, TooFine, TimeBack, CutShort}
use Rattle.tre_unit.specs.declared.unit.TimeUnit.{TimeUnit}
use Rattle.tre_vcd.specs.Timescale.{tick_of, units_by}
use Rattle.tre_vcd.specs.declared.timescale.Tick.{Tick}

-- White space is the byte 32, and the bytes 9 to 13.
abbrev pub is_white : ℕ → Bool
is_white byte = byte == 32 || (nat_le 9 byte && nat_le byte 13)

-- What is asked of a dump: the names that it must declare, and what names are defined to read. A
-- tick of the dump is 10^scale units of time. Where a unit is asked for, a unit of time is instead
-- 10^-scale of that, however long a tick takes.
pub record Terms : Type 0 where
  pub declared : List Vocabulary
  pub scale : ℕ
  pub unit : Option TimeUnit
  pub definitions : List SignalDefined

-- How a change is written: as one letter and its identifier, or as a vector.
pub data Form : Type 0 where
  scalar : Form
  wide : Form

-- What was read whole. A change has the letters of the value, the last of which is that of bit 0.
pub data Statement : Type 0 where
  scope : List ℕ → Statement
  upscope : Statement
  var : List (List ℕ) → Statement
  timescale : List (List ℕ) → Statement
  definitions : Statement
  time : ℕ → Statement
  change : Form → List ℕ → List ℕ → Statement
  dump : Statement
  dump_end : Statement

-- What is open behind a token: nothing; a section of the declarations, with its command and the
-- tokens in it; a comment among the values; the letters of a vector that waits for its identifier;
-- a real or a string that does.
pub data Open : Type 0 where
  nothing : Open
  section : List ℕ → List (List ℕ) → Open
  comment : Open
  vector : List ℕ → Open
  number : Open

-- A place among the tokens: what was read, the newest first, and what is open.
pub record Place : Type 0 where
  pub past : List Statement
  pub inside : Open

abbrev pub first_place : Place
first_place = record { past = []; inside = nothing }

-- ---- what the past says

abbrev pub is_defined : List Statement → Bool
is_defined [] = false
is_defined (definitions ∷ past) = true
is_defined (_ ∷ past) = is_defined past

-- the last time, which is 0 before the first
abbrev pub time_at : List Statement → ℕ
time_at [] = 0
time_at (time ticks ∷ past) = ticks
time_at (_ ∷ past) = time_at past

-- the open scopes, the innermost first
abbrev pub scopes_at : List Statement → List (List ℕ)
scopes_at [] = []
scopes_at (scope name ∷ past) = name ∷ scopes_at past
scopes_at (upscope ∷ past) = drop 1 (scopes_at past)
scopes_at (_ ∷ past) = scopes_at past

-- the tokens of the first `$timescale`
abbrev pub timescale_at : List Statement → Option (List (List ℕ))
timescale_at [] = None
timescale_at (timescale tokens ∷ past) = option_or (timescale_at past) (Some tokens)
timescale_at (_ ∷ past) = timescale_at past

abbrev pub tick_at : List Statement → Option Tick
tick_at past = option_and_then tick_of (timescale_at past)

abbrev pub in_dump : List Statement → Bool
in_dump [] = false
in_dump (dump ∷ past) = true
in_dump (dump_end ∷ past) = false
in_dump (_ ∷ past) = in_dump past

-- what the newest says that says anything, each beside what was read before it
abbrev pub latest : {X Y : Type 0} → (X → List X → Option Y) → List X → Option Y
latest says [] = None
latest says (one ∷ past) = option_or (says one past) (latest says past)

-- the letters of the last change of this identifier; none where there is no change
abbrev pub letters_in : List ℕ → Statement → List Statement → Option (List ℕ)
letters_in identifier (change form other letters) past =
    if bytes_eq identifier other then Some letters else None
letters_in identifier _ past = None

abbrev pub letters_at : List Statement → List ℕ → Option (List ℕ)
letters_at past identifier = latest (letters_in identifier) past

-- what had been read when the last time was reached
abbrev pub before_now : List Statement → List Statement
before_now [] = []
before_now (time ticks ∷ past) = if ticks == time_at past then before_now past else past
before_now (_ ∷ past) = before_now past

-- The event of this identifier happened at the last time. A scalar change says it, whatever its
-- value, but not in a dump section.
abbrev pub happened_in : List ℕ → Statement → List Statement → Option Bool
happened_in identifier (change scalar other letters) past =
    if not (in_dump past) && bytes_eq identifier other then Some true else None
happened_in identifier (time ticks) past = if ticks == time_at past then None else Some false
happened_in identifier _ past = None

abbrev pub happened_at : List Statement → List ℕ → Bool
happened_at past identifier =
    option_map_or (λ happened. happened) (latest (happened_in identifier) past) false

-- the names of the scopes, the outermost first, and the reference, joined by full stops (46)
abbrev pub path : List (List ℕ) → List ℕ → List ℕ
path [] reference = reference
path (name ∷ scopes) reference = path scopes (name ++ 46 ∷ reference)

-- a variable of one bit that is true or false
abbrev pub is_signal : List ℕ → List ℕ → Bool
is_signal kind size =
    bytes_eq size (codes "1")
    && not (bytes_eq kind (codes "real") || bytes_eq kind (codes "realtime") || bytes_eq kind
    (codes "event"))

-- an event, of any size
abbrev pub is_event : List ℕ → List ℕ → Bool
is_event kind size = bytes_eq kind (codes "event")

-- the identifier of a declaration in these scopes, where its type and size pass the test and it
-- declares this name
abbrev pub identifier_in : (List ℕ → List ℕ → Bool) → List (List ℕ) → List ℕ → List (List ℕ)
    → Option (List ℕ)
identifier_in test scopes name (kind ∷ size ∷ identifier ∷ reference ∷ []) =
    if test kind size && bytes_eq name (path scopes reference) then Some identifier else None
identifier_in test scopes name _ = None

-- ---- what definitions read

-- What a declaration offers to definitions: values of an identifier, of so many bits, by a full
-- name.
pub record Offer : Type 0 where
  pub identifier : List ℕ
  pub full_name : List ℕ
  pub size : ℕ

-- a variable whose values are bits
abbrev pub has_bits : List ℕ → Bool
has_bits kind =
    not (bytes_eq kind (codes "real") || bytes_eq kind (codes "realtime")
    || bytes_eq kind (codes "string") || bytes_eq kind (codes "event"))

-- The size is digits, and at least 1; one above 2^64 - 1 counts as that.
abbrev pub offer_of : List ℕ → List ℕ → List ℕ → List ℕ → Option Offer
offer_of kind size identifier full_name =
    if has_bits kind && is_numeral size && nat_lt 0 (digits_value 10 size)
    then Some (record {
      identifier = identifier;
      full_name = full_name;
      size = min (digits_value 10 size) (2 ^ 64 - 1);
    })
    else None

-- What a declaration in these scopes offers. A range may stand behind the reference, as a token
-- that begins with `[` (91).
abbrev pub offer_in : List (List ℕ) → List (List ℕ) → Option Offer
offer_in scopes (kind ∷ size ∷ identifier ∷ reference ∷ []) =
    offer_of kind size identifier (path scopes reference)
offer_in scopes (kind ∷ size ∷ identifier ∷ reference ∷ range ∷ []) =
    if slice_index range 0 == 91
    then offer_of kind size identifier (path scopes (reference ++ range)) else None
offer_in scopes _ = None

-- ---- what names read

-- what a name asks of the values of an identifier
pub record Asked (X : Type 0) : Type 0 where
  pub identifier : List ℕ
  pub asks : X

abbrev pub asking : {X : Type 0} → X → Option (List ℕ) → Option (Asked X)
asking asks identified = option_map (λ identifier. record { identifier = identifier; asks = asks })
    identified

abbrev pub asked_in : {X : Type 0} → (List ℕ → ℕ → Option X) → Offer → Option (Asked X)
asked_in asks offer =
    option_map (λ it. record { identifier = offer.identifier; asks = it })
    (asks offer.full_name offer.size)

-- What a name reads as a proposition, of a declaration in these scopes: what its definition says
-- where it has one, and else the lowest bit of the variable of one bit with this path.
abbrev pub signal_in : Option SignalDefined → List ℕ
    → (List (List ℕ) → List (List ℕ) → Option (Asked Test))
signal_in None name =
    λ scopes tokens. asking plain_test (identifier_in is_signal scopes name tokens)
signal_in (Some one) name =
    λ scopes tokens. option_and_then (asked_in (test_in one)) (offer_in scopes tokens)

-- What a text names of a declaration in these scopes.
abbrev pub part_in : List ℕ → (List (List ℕ) → List (List ℕ) → Option (Asked Part))
part_in text = λ scopes tokens. option_and_then (asked_in (part_of_text text)) (offer_in scopes tokens)

-- Two parts, the first of which is compared so with the second.
pub record Pair : Type 0 where
  pub comparison : Comparison
  pub one : Asked Part
  pub other : Asked Part

abbrev pub pair_by : Reads → Option (Asked Part) → Option (Asked Part) → Option Pair
pair_by (Beside comparison) (Some one) (Some other) =
    Some (record { comparison = comparison; one = one; other = other })
pair_by _ one other = None

-- When an event happens: where a scalar change of the identifier says it, or where some of its bits
-- change.
pub data Occasion : Type 0 where
  scalar_said : Occasion
  bits_changed : Part → Occasion

abbrev pub is_changes : Reads → Bool
is_changes Changes = true
is_changes _ = false

abbrev pub of_changes : List SignalDefined → List SignalDefined
of_changes defined = filter (λ one. is_changes one.reads) defined

abbrev pub occasion_in : SignalDefined → List ℕ → ℕ → Option Occasion
occasion_in one full_name size = option_map bits_changed (changes_in one full_name size)

-- What a name reads as an event: the changes that it is defined by, or else the event of this path.
abbrev pub event_read_by : Option SignalDefined → List ℕ
    → (List (List ℕ) → List (List ℕ) → Option (Asked Occasion))
event_read_by None name =
    λ scopes tokens. asking scalar_said (identifier_in is_event scopes name tokens)
event_read_by (Some one) name =
    λ scopes tokens. option_and_then (asked_in (occasion_in one)) (offer_in scopes tokens)

-- what is read of the first declaration of which something is, by its scopes and tokens
abbrev pub first_read : {X : Type 0} → (List (List ℕ) → List (List ℕ) → Option X)
    → List Statement → Option X
first_read reads [] = None
first_read reads (var tokens ∷ past) =
    option_or (first_read reads past) (reads (scopes_at past) tokens)
first_read reads (_ ∷ past) = first_read reads past

abbrev pub signal_of : List SignalDefined → List Statement → List ℕ → Option (Asked Test)
signal_of defined past name =
    first_read (signal_in (signal_definition_of defined name) name) past

-- What a name is defined to compare: of each text what is read of the first declaration of which
-- something is.
abbrev pub pair_read : List Statement → Option SignalDefined → Option Pair
pair_read past None = None
pair_read past (Some one) =
    pair_by one.reads (first_read (part_in one.signal) past) (first_read (part_in one.other) past)

abbrev pub pair_of : List SignalDefined → List Statement → List ℕ → Option Pair
pair_of defined past name = pair_read past (signal_definition_of defined name)

abbrev pub event_asked : List SignalDefined → List Statement → List ℕ → Option (Asked Occasion)
event_asked defined past name =
    first_read (event_read_by (signal_definition_of (of_changes defined) name) name) past

abbrev pub is_passed : List Statement → Asked Test → Bool
is_passed past asked =
    option_map_or (passes asked.asks) (letters_at past asked.identifier) false

-- the number of a part now; none where a bit of it is unknown
abbrev pub number_at : List Statement → Asked Part → Option ℕ
number_at past asked =
    option_and_then (number_of_part asked.asks) (letters_at past asked.identifier)

abbrev pub pair_holds : List Statement → Pair → Bool
pair_holds past pair =
    compares_known pair.comparison (number_at past pair.one) (number_at past pair.other)

-- some of the bits have other letters than before, if there were any
abbrev pub differs : Part → Option (List ℕ) → Option (List ℕ) → Bool
differs part (Some old) (Some new) = differ part old new
differs part _ _ = false

-- the event happened at the last time
abbrev pub has_come : List Statement → List ℕ → Occasion → Bool
has_come past identifier scalar_said = happened_at past identifier
has_come past identifier (bits_changed part) =
    differs part (letters_at (before_now past) identifier) (letters_at past identifier)

abbrev pub is_come : List Statement → Asked Occasion → Bool
is_come past asked = has_come past asked.identifier asked.asks

abbrev pub tested_at : List SignalDefined → List Statement → List ℕ → Bool
tested_at defined past name =
    option_map_or (is_passed past) (signal_of defined past name) false

abbrev pub compared_at : List SignalDefined → List Statement → List ℕ → Bool
compared_at defined past name =
    option_map_or (pair_holds past) (pair_of defined past name) false

-- A name is a proposition by what it asks of a signal, or by the two that it compares.
abbrev pub true_at : List SignalDefined → List Statement → List ℕ → Bool
true_at defined past name = tested_at defined past name || compared_at defined past name

abbrev pub is_proposition : List SignalDefined → List Statement → List ℕ → Bool
is_proposition defined past name =
    is_some (signal_of defined past name) || is_some (pair_of defined past name)

abbrev pub happens_at : List SignalDefined → List Statement → List ℕ → Bool
happens_at defined past name =
    option_map_or (is_come past) (event_asked defined past name) false

-- something is declared that each of the names reads, as a proposition or as an event
abbrev pub are_declared : List SignalDefined → List Statement → Vocabulary → Bool
are_declared defined past needed =
    list_all (is_proposition defined past) needed.names
    && list_all (λ name. is_some (event_asked defined past name)) needed.events

-- ---- times

-- it is known how long a tick takes, where a unit is asked for
abbrev pub has_tick : Terms → List Statement → Bool
has_tick terms past = not (is_some terms.unit) || is_some (tick_at past)

abbrev pub units_at : Terms → List Statement → ℕ → Option ℕ
units_at terms past ticks = units_by terms.scale terms.unit (tick_at past) ticks

-- ---- what a token says

-- nothing is said, and this is the place behind it
abbrev pub goes_to : List Statement → Open → Result (Step Place) TraceKind
goes_to past inside = Ok (record {
  stretches = [];
  state = record { past = past; inside = inside };
})

abbrev pub is_end : List ℕ → Bool
is_end token = bytes_eq token (codes "$end")

abbrev pub is_dump : List ℕ → Bool
is_dump token =
    bytes_eq token (codes "$dumpall") || bytes_eq token (codes "$dumpoff")
    || bytes_eq token (codes "$dumpon") || bytes_eq token (codes "$dumpvars")

abbrev pub is_command : List ℕ → Bool
is_command token = slice_index token 0 == 36

abbrev pub scope_says : List Statement → List (List ℕ) → Result (Step Place) TraceKind
scope_says past (kind ∷ name ∷ tokens) = goes_to (scope name ∷ past) nothing
scope_says past _ = Err BadToken

abbrev pub declaration_says : List Statement → List (List ℕ) → Result (Step Place) TraceKind
declaration_says past tokens =
    if nat_lt (length tokens) 4 then Err BadToken else goes_to (var tokens ∷ past) nothing

abbrev pub section_says : List Statement → List ℕ → List (List ℕ) → Result (Step Place) TraceKind
section_says past command tokens =
    if bytes_eq command (codes "$scope") then scope_says past tokens
    else (if bytes_eq command (codes "$upscope") then goes_to (upscope ∷ past) nothing
    else (if bytes_eq command (codes "$var") then declaration_says past tokens
    else (if bytes_eq command (codes "$timescale") then goes_to (timescale tokens ∷ past) nothing
    else (if bytes_eq command (codes "$enddefinitions") then goes_to (definitions ∷ past) nothing
    else goes_to past nothing))))

abbrev pub command_says : Terms → List Statement → List ℕ → Result (Step Place) TraceKind
command_says terms past token =
    if not (is_command token) || is_end token || is_dump token then Err BadToken
    else (if bytes_eq token (codes "$upscope") && length (scopes_at past) == 0 then Err BadToken
    else (if bytes_eq token (codes "$enddefinitions") && not (has_tick terms past)
    then Err BadScale
    else (if bytes_eq token (codes "$enddefinitions")
    && not (list_all (are_declared terms.definitions past) terms.declared)
    then Err UnknownName else goes_to past (section token []))))

-- the stretch from the last time to this one: its values, and the events at its begin
abbrev pub stretch_until : List SignalDefined → List Statement → ℕ → Stretch
stretch_until defined past ticks = record {
  len = ticks - time_at past;
  is_true = true_at defined past;
  happens = happens_at defined past;
}

-- a time, behind the time that was reached
abbrev pub time_says : List SignalDefined → List Statement → ℕ → Result (Step Place) TraceKind
time_says defined past ticks =
    if nat_lt ticks (time_at past) then Err TimeBack
    else (if nat_lt TIME_MAX ticks then Err TooLate
    else (if ticks == time_at past then goes_to (time ticks ∷ past) nothing
    else Ok (record {
      stretches = stretch_until defined past ticks ∷ [];
      state = record { past = time ticks ∷ past; inside = nothing };
    })))

-- a command among the values: a dump section opens or closes, or a comment begins
abbrev pub keyword_says : List Statement → List ℕ → Result (Step Place) TraceKind
keyword_says past token =
    if is_dump token then (if in_dump past then Err BadToken else goes_to (dump ∷ past) nothing)
    else (if is_end token
    then (if in_dump past then goes_to (dump_end ∷ past) nothing else Err BadToken)
    else (if bytes_eq token (codes "$comment") then goes_to past comment else Err BadToken))

-- the letters of scalar values
abbrev pub is_scalar : ℕ → Bool
is_scalar byte = list_any (λ letter. byte == letter) (codes "01xXzZuUwWlLhH-")

-- a scalar change: the value's letter, and an identifier of one byte at least
abbrev pub scalar_says : List Statement → ℕ → List ℕ → Result (Step Place) TraceKind
scalar_says past letter [] = Err BadToken
scalar_says past letter identifier =
    goes_to (change scalar identifier (letter ∷ []) ∷ past) nothing

-- a vector: its letter, and one byte at least
abbrev pub vector_says : List Statement → List ℕ → Result (Step Place) TraceKind
vector_says past [] = Err BadToken
vector_says past letters = goes_to past (vector letters)

-- `#` and decimal digits, one at least and no point: the time in units, a whole number of them
abbrev pub ticks_say : Terms → List Statement → List ℕ → Result (Step Place) TraceKind
ticks_say terms past digits =
    if is_numeral digits
    then option_map_or (time_says terms.definitions past)
    (units_at terms past (digits_value 10 digits)) (Err TooFine)
    else Err BadToken

-- a token among the values, where nothing is open, by its first byte: `#`, `$`, the letters of
-- vectors, those of reals and strings, and those of scalars
abbrev pub value_says : Terms → List Statement → List ℕ → Result (Step Place) TraceKind
value_says terms past [] = goes_to past nothing
value_says terms past (byte ∷ bytes) =
    if byte == 35 then ticks_say terms past bytes
    else (if byte == 36 then keyword_says past (byte ∷ bytes)
    else (if byte == 98 || byte == 66 then vector_says past bytes
    else (if list_any (λ letter. byte == letter) (codes "rRsS") then goes_to past number
    else (if is_scalar byte then scalar_says past byte bytes else Err BadToken))))

abbrev pub token_at : Terms → List Statement → Open → List ℕ → Result (Step Place) TraceKind
token_at terms past nothing token =
    if is_defined past then value_says terms past token else command_says terms past token
token_at terms past (section command tokens) token =
    if is_end token then section_says past command tokens
    else goes_to past (section command (tokens ++ token ∷ []))
token_at terms past comment token = goes_to past (if is_end token then nothing else comment)
token_at terms past (vector letters) token = goes_to (change wide token letters ∷ past) nothing
token_at terms past number token = goes_to past nothing

-- what stands between two separators: a token, or nothing where they are neighbours
unfoldable pub token_says : Terms → Place → List ℕ → Result (Step Place) TraceKind
token_says terms place [] = goes_to place.past place.inside
token_says terms place token = token_at terms place.past place.inside token

-- The input may end where the declarations have ended and nothing is open.
abbrev pub is_whole : Open → Bool
is_whole nothing = true
is_whole _ = false

unfoldable pub end_says : Place → Option TraceKind
end_says place =
    if is_defined place.past && not (in_dump place.past) && is_whole place.inside then None else
    Some CutShort

-- The format: tokens between white space. A fault is told with the offset of its token.
abbrev pub vcd_format : Terms → Format Place
vcd_format terms = record {
  separates = is_white;
  start = first_place;
  place = λ spot. spot.offset;
  says = token_says terms;
  at_end = end_says;
  last = λ place. happens_at terms.definitions place.past;
  time = λ place. time_at place.past;
}

-- What the bytes say of a trace, where this is asked of them.
abbrev pub vcd_recording : Terms → Bool → List ℕ → Recording
vcd_recording terms closed bytes = recording_of (vcd_format terms) closed bytes
