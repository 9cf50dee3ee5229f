-- What the reader keeps of what names read by their definitions.
use Rattle.std.specs.Prelude.{◌≡◌, ◌≢◌, ℕ, zero, suc, min, ◌-◌, ◌^◌, ◌≤◌, nat_lt, Bool, true, false, ◌&&◌, ◌==◌, List, [], ◌∷◌, length, map, Option, None, Some, slice_index, if◌then◌else◌}
use Rattle.std.specs.Option.{is_some, option_and_then, option_map, option_map_or}
use Rattle.std.specs.Int.{bit_at}
use Rattle.std.specs.Str.{bytes_eq}
use Rattle.std.specs.Str.Parse.{digits_value}
use Rattle.tre_decimal.specs.Decimal.{is_numeral}
use Rattle.tre_define.specs.Signals.{SignalDefined, signal_definition_of}
use Rattle.tre_define.specs.Values.{passes}
use Rattle.tre_define.specs.declared.part.Part.{Part}
use Rattle.tre_define.specs.declared.test.Test.{Test}
use Rattle.tre_state.specs.Sieve.{MayBe}
use Rattle.tre_vcd.specs.VcdReading.{Statement, is_defined, Offer, has_bits, Asked, Occasion, bits_changed, signal_in, event_read_by, first_read, of_changes, letters_at, before_now, is_passed, differs}
use Rattle.tre_vcd.specs.declared.changes.AskedPart.{AskedPart}
use Rattle.tre_vcd.specs.declared.changes.Changes.{Changes}
use Rattle.tre_vcd.specs.declared.changes.Watched.{Watched}
use Rattle.tre_vcd.specs.declared.letters.Letters.{Letters}
use Rattle.tre_vcd.specs.declared.offer.Offered.{Offered}
use Rattle.tre_vcd.specs.declared.tests.AskedTest.{AskedTest}
use Rattle.tre_vcd.specs.declared.tests.Tested.{Tested}
use Rattle.tre_vcd.specs.declared.tests.Tests.{Tests}

-- ---- offers

abbrev pub offer_kept : Offered → Offer
offer_kept offered = record {
  identifier = offered.identifier.items;
  full_name = offered.full_name.items;
  size = offered.size;
}

-- the token begins with `[` (91)
abbrev pub begins_range : List ℕ → Bool
begins_range token = slice_index token 0 == 91

-- how many bits a variable of this type and size offers
abbrev pub size_offered : List ℕ → List ℕ → Option ℕ
size_offered kind size =
    if has_bits kind && is_numeral size && nat_lt 0 (digits_value 10 size)
    then Some (min (digits_value 10 size) (2 ^ 64 - 1)) else None

-- ---- tests

abbrev pub asked_of_test : AskedTest → Asked Test
asked_of_test asked = record { identifier = asked.identifier.items; asks = asked.test }

-- what is asked by a definition
abbrev pub test_kept : Tested → Option (Asked Test)
test_kept tested = option_map asked_of_test tested.asked

abbrev pub test_at : List Tested → ℕ → Option (Asked Test)
test_at [] k = None
test_at (tested ∷ list) zero = test_kept tested
test_at (tested ∷ list) (suc k) = test_at list k

-- whether there is a definition at a place
abbrev pub has_at : List (Option SignalDefined) → ℕ → Bool
has_at [] k = false
has_at (definition ∷ kept) zero = is_some definition
has_at (definition ∷ kept) (suc k) = has_at kept k

abbrev pub has_test_at : List Tested → ℕ → Bool
has_test_at list k = has_at (map (λ tested. tested.definition) list) k

-- what is asked by this definition, if there is one
abbrev pub test_read : List Statement → Option SignalDefined → Option (Asked Test)
test_read past None = None
test_read past (Some one) = first_read (signal_in (Some one) []) past

-- Each asks what its definition does.
abbrev pub AreTested : List Statement → List Tested → Type 0
AreTested past [] = Unit {0}
AreTested past (tested ∷ list) =
    (test_kept tested ≡ test_read past tested.definition) × AreTested past list

-- The definitions are those of these names; without one, none needs to be kept.
abbrev pub AreDefined : List SignalDefined → List (List ℕ) → List (Option SignalDefined) → Type 0
AreDefined all [] kept = kept ≡ []
AreDefined all (name ∷ names) [] =
    (signal_definition_of all name ≡ None) × AreDefined all names []
AreDefined all (name ∷ names) (own ∷ kept) =
    (own ≡ signal_definition_of all name) × AreDefined all names kept

abbrev pub bit_of : Bool → ℕ
bit_of value = if value then 1 else 0

-- what letters of an identifier say, where they are asked
abbrev pub test_told : Option (Asked Test) → List ℕ → List ℕ → Option Bool
test_told None identifier letters = None
test_told (Some asked) identifier letters =
    if bytes_eq asked.identifier identifier then Some (passes asked.asks letters) else None

-- the bit that it was, where nothing is told
abbrev pub bit_told : Option Bool → ℕ → ℕ
bit_told None old = old
bit_told (Some value) old = bit_of value

-- What is kept of the tests of these names.
pub record KnowsTests (all : List SignalDefined) (names : List (List ℕ)) (kept : Tests)
    (past : List Statement) : Type 0 where
  pub few : length kept.list.items ≤ 64
  pub definitions : AreDefined all names
      (map (λ tested. tested.definition) kept.list.items)
  pub tests : AreTested past kept.list.items
  pub sieve : is_defined past ≡ true → (k : ℕ) (asked : Asked Test)
      → test_at kept.list.items k ≡ Some asked → MayBe kept.sieve asked.identifier k
  pub defined : (k : ℕ) → bit_at kept.defined k ≡ bit_of (has_test_at kept.list.items k)
  pub values : (k : ℕ) → bit_at kept.values k
      ≡ bit_of (option_map_or (is_passed past) (test_at kept.list.items k) false)

-- ---- changes

abbrev pub letters_kept : Letters → Option (List ℕ)
letters_kept letters = if letters.are_said then Some letters.bytes.items else None

abbrev pub asked_of_part : AskedPart → Asked Part
asked_of_part asked = record { identifier = asked.identifier.items; asks = asked.part }

abbrev pub part_kept : Watched → Option (Asked Part)
part_kept watched = option_map asked_of_part watched.asked

-- whether values of this identifier are asked
abbrev pub reads_part : Option (Asked Part) → List ℕ → Bool
reads_part None identifier = false
reads_part (Some asked) identifier = bytes_eq asked.identifier identifier

abbrev pub occasion_of : Asked Part → Asked Occasion
occasion_of asked = record { identifier = asked.identifier; asks = bits_changed asked.asks }

abbrev pub watched_at : List Watched → ℕ → Option Watched
watched_at [] k = None
watched_at (watched ∷ list) zero = Some watched
watched_at (watched ∷ list) (suc k) = watched_at list k

abbrev pub part_at : List Watched → ℕ → Option (Asked Part)
part_at list k = option_and_then part_kept (watched_at list k)

abbrev pub has_part_at : List Watched → ℕ → Bool
has_part_at list k = has_at (map (λ watched. watched.definition) list) k

abbrev pub part_read : List Statement → Option SignalDefined → Option (Asked Occasion)
part_read past None = None
part_read past (Some one) = first_read (event_read_by (Some one) []) past

-- Each asks what its definition does.
abbrev pub SignalsAreWatched : List Statement → List Watched → Type 0
SignalsAreWatched past [] = Unit {0}
SignalsAreWatched past (watched ∷ list) =
    (option_map occasion_of (part_kept watched) ≡ part_read past watched.definition)
    × SignalsAreWatched past list

abbrev pub has_changed : List Statement → Asked Part → Bool
has_changed past asked = differs asked.asks (letters_at (before_now past) asked.identifier)
    (letters_at past asked.identifier)

-- What is kept of a part that is asked: its letters now, and those before this time, where others
-- were said at it.
pub record KnowsPart (watched : Watched) (said : ℕ) (past : List Statement) (asked : Asked Part) :
    Type 0 where
  pub now : letters_kept watched.latest ≡ letters_at past asked.identifier
  pub before : said ≡ 1
      → letters_kept watched.earlier ≡ letters_at (before_now past) asked.identifier
  pub quiet : said ≢ 1
      → letters_at (before_now past) asked.identifier ≡ letters_at past asked.identifier

pub record KnowsWatched (watched : Watched) (said happened : ℕ) (past : List Statement) : Type 0
  where
    pub letters : (asked : Asked Part) → part_kept watched ≡ Some asked
        → KnowsPart watched said past asked
    pub silent : part_kept watched ≡ None
        → (letters_kept watched.latest ≡ None) × (said ≡ 0)
    pub happened_is : happened ≡ bit_of (option_map_or (has_changed past) (part_kept watched) false)

abbrev pub KnowsAt : Option Watched → ℕ → ℕ → List Statement → Type 0
KnowsAt None said happened past = (happened ≡ 0) × (said ≡ 0)
KnowsAt (Some watched) said happened past = KnowsWatched watched said happened past

-- The same is asked in the same places, by the same definitions.
abbrev pub SameAsked : List Watched → List Watched → Type 0
SameAsked old new =
    (map (λ watched. watched.definition) new ≡ map (λ watched. watched.definition) old)
    × (map part_kept new ≡ map part_kept old)

-- What is kept of the changes that these names are.
pub record KnowsChanges (all : List SignalDefined) (names : List (List ℕ)) (kept : Changes)
    (past : List Statement) : Type 0 where
  pub few : length kept.list.items ≤ 64
  pub definitions : AreDefined all names
      (map (λ watched. watched.definition) kept.list.items)
  pub parts : SignalsAreWatched past kept.list.items
  pub sieve : is_defined past ≡ true → (k : ℕ) (asked : Asked Part)
      → part_at kept.list.items k ≡ Some asked → MayBe kept.sieve asked.identifier k
  pub defined : (k : ℕ) → bit_at kept.defined k ≡ bit_of (has_part_at kept.list.items k)
  pub each : (k : ℕ) → KnowsAt (watched_at kept.list.items k) (bit_at kept.said k)
      (bit_at kept.happened k) past
