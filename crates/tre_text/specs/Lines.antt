-- What was found on a line.
use Rattle.std.specs.Prelude.{◌≡◌, ◌≢◌, ℕ, ◌+◌, ◌^◌, ◌≤◌, Some, List, ◌∷◌, ◌++◌, true, false, Result, Ok, Err}
use Rattle.std.specs.Int.Bits.{bit_or}
use Rattle.std.specs.List.{fold}
use Rattle.std.specs.Option.{option_map_or}
use Rattle.tre_pairs.specs.declared.TheConstants.{TIME_MAX}
use Rattle.tre_parts.specs.Format.{Step}
use Rattle.tre_decimal.specs.Decimal.{units_of}
use Rattle.tre_state.specs.Names.{place_of}
use Rattle.tre_text.specs.TextReading.{Past, begins_events, fields_say, is_among, no_stretch, one_stretch, past_at}
use Rattle.tre_text.specs.declared.found.Found.{Found}
use Rattle.tre_text.specs.declared.found.Found.TheVariants.{Nothing, Events, Entry, Wrong}
use Rattle.tre_text.specs.declared.found.Head.{Head}
use Rattle.tre_text.specs.declared.found.Head.TheVariants.{Events as EventsFollow, Entry as EntryFollows}
use Rattle.tre_text.specs.declared.known.Known.{Known}
use Rattle.tre_trace.specs.Reading.{Vocabulary, bits_of}
use Rattle.tre_trace.specs.declared.fault.TraceKind.{TraceKind}
use Rattle.tre_trace.specs.declared.fault.TraceKind.TheVariants.{Spent}

-- the bits, with that of this name set besides, where it is one of the names
abbrev pub with_name : List (List ℕ) → ℕ → List ℕ → ℕ
with_name names bits field =
    option_map_or (λ place. bit_or bits (2 ^ place)) (place_of names field) bits

-- the bits, with those of the fields set besides
abbrev pub bits_after : List (List ℕ) → ℕ → List (List ℕ) → ℕ
bits_after names bits fields = fold (with_name names) bits fields

-- The reader knows what it needs of the past, for these events.
pub record Knows (events : List (List ℕ)) (known : Known) (past : Past) : Type 0 where
  pub end : known.end ≡ past.end
  pub pending : known.pending ≡ bits_of (is_among past.said) events

-- A line says events, and these are the bits with theirs set besides.
pub record FindsEvents (said : Result (Step Past) TraceKind) (past : Past)
    (events : List (List ℕ)) (pending bits : ℕ) : Type 0 where
  pub fields : List (List ℕ)
  pub says : said ≡ Ok (no_stretch (past_at past.end (past.said ++ fields)))
  pub bits_are : bits ≡ bits_after events pending fields

-- A line says a stretch, and these are the bits of what is true on it.
pub record FindsEntry (said : Result (Step Past) TraceKind) (past : Past)
    (names : List (List ℕ)) (len bits : ℕ) : Type 0 where
  pub fields : List (List ℕ)
  pub says : said ≡ Ok (one_stretch past len fields)
  pub bits_are : bits ≡ bits_after names 0 fields
  pub fits : past.end + len ≤ TIME_MAX

-- A line behind the past says what was found on it.
abbrev pub LineFinds : Result (Step Past) TraceKind → Past → Vocabulary → ℕ → Found → Type 0
LineFinds said past asked pending Nothing = said ≡ Ok (no_stretch past)
LineFinds said past asked pending (Events bits) = FindsEvents said past asked.events pending bits
LineFinds said past asked pending (Entry len val) = FindsEntry said past asked.names len val
LineFinds said past asked pending (Wrong kind) = (said ≡ Err kind) × (kind ≢ Spent)

-- The first field is a number of units, for which there is time, and so no sign of events.
pub record IsLength (scale end : ℕ) (first : List ℕ) (len : ℕ) : Type 0 where
  pub no_events : begins_events first ≡ false
  pub is : units_of scale first ≡ Some len
  pub some : len ≢ 0
  pub fits : end + len ≤ TIME_MAX

-- What the first field of a line says behind a trace that ends there: the sign of events, a length,
-- or what is wrong, whatever was said before it and whatever fields stand behind it.
abbrev pub Heads : ℕ → ℕ → List ℕ → Result Head TraceKind → Type 0
Heads scale end first (Ok EventsFollow) = begins_events first ≡ true
Heads scale end first (Ok (EntryFollows len)) = IsLength scale end first len
Heads scale end first (Err kind) = ((said : List (List ℕ)) (fields : List (List ℕ)) →
    fields_say scale (past_at end said) (first ∷ fields) ≡ Err kind)
    × (kind ≢ Spent)

-- the names that may stand on such a line
abbrev pub list_of : Head → List (List ℕ) → List (List ℕ) → List (List ℕ)
list_of EventsFollow names events = events
list_of (EntryFollows len) names events = names

-- the bits that were set before it
abbrev pub said_of : Head → Known → ℕ
said_of EventsFollow known = known.pending
said_of (EntryFollows len) known = 0
