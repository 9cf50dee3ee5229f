-- What stands in a text: its words by their bytes, each the longest at its place, and which names
-- are among them.
use Rattle.std.specs.Prelude.{◌≢◌, ℕ, ◌+◌, min, ◌≡◌, ◌≤◌, ◌⊎◌, Bool, ◌&&◌, ◌||◌, ◌==◌, not, true, false, if◌then◌else◌, Option, Some, None, unwrap_or, List, [], ◌∷◌, length, take, drop, filter, codes, Contains, IsTrue}
use Rattle.std.specs.List.{list_any, list_all}
use Rattle.std.specs.Char.{is_ascii_digit}
use Rattle.std.specs.Str.{bytes_eq}
use Rattle.tre_pairs.specs.declared.TheConstants.{TIME_MAX}
use Rattle.tre_decimal.specs.Decimal.{units_of}
use Rattle.tre_state.specs.declared.names.TheConstants.{NAMES_MAX}
use Rattle.tre_state.specs.Name.{starts_name, continues_name, is_reserved}
use Rattle.tre_state.specs.Names.{place_of}
use Rattle.tre_trace.specs.Reading.{Vocabulary}

abbrev pub Words : Type 0
Words = List (List ℕ)

abbrev pub is_name : List ℕ → Bool
is_name [] = false
is_name (first ∷ rest) =
    starts_name first && list_all continues_name rest && not (is_reserved (first ∷ rest))

abbrev pub is_number : List ℕ → Bool
is_number word = list_any is_ascii_digit (take 1 word)

abbrev pub signs : Words
signs =
    codes "||" ∷ codes "&&" ∷ codes "<:" ∷ codes ":>" ∷ codes "(" ∷ codes ")" ∷ codes "["
    ∷ codes "]" ∷ codes "{" ∷ codes "}" ∷ codes "," ∷ codes ";" ∷ codes "|" ∷ codes "&"
    ∷ codes "!" ∷ codes "*" ∷ codes "+" ∷ codes "?" ∷ codes "%" ∷ []

-- A name, a sign, a reserved word, or what is a number of units at some scale.
abbrev pub IsOneWord : List ℕ → Type 0
IsOneWord bytes =
    IsTrue (is_name bytes) ⊎ Contains signs bytes ⊎ IsTrue (is_reserved bytes)
    ⊎ ((scale : ℕ) × (units_of scale bytes ≢ None))

-- A space (32), a tab (9), CR (13) or LF (10).
abbrev pub is_white_space : ℕ → Bool
is_white_space byte = byte == 32 || byte == 9 || byte == 13 || byte == 10

-- The first `len` of the bytes are a word, and no more of them are one.
pub record BeginsWith (bytes : List ℕ) (len : ℕ) : Type 0 where
  pub within : len ≤ length bytes
  pub is : IsOneWord (take len bytes)
  pub longest : (more : ℕ) → more ≤ length bytes → IsOneWord (take more bytes) → more ≤ len

-- The bytes from an offset on are these words, each at its offset, with blanks anywhere, up to the
-- first byte at which none begins, if there is one.
pub data AreWords : ℕ → List ℕ → List (ℕ × List ℕ) → Option ℕ → Type 0 where
  at_end : (at : ℕ) → AreWords at [] [] None
  blank : (at byte : ℕ) (rest : List ℕ) (words : List (ℕ × List ℕ)) (bad : Option ℕ)
      → is_white_space byte ≡ true → AreWords (at + 1) rest words bad
      → AreWords at (byte ∷ rest) words bad
  next : (at len : ℕ) (bytes : List ℕ) (words : List (ℕ × List ℕ)) (bad : Option ℕ)
      → BeginsWith bytes len → AreWords (at + len) (drop len bytes) words bad
      → AreWords at bytes ((at, take len bytes) ∷ words) bad
  wrong : (at byte : ℕ) (rest : List ℕ) → is_white_space byte ≡ false
      → ((len : ℕ) → BeginsWith (byte ∷ rest) len → ⊥) → AreWords at (byte ∷ rest) [] (Some at)

-- The names among words behind these two. Those right behind `event (` are of events.
abbrev pub names_in : (Bool → Bool) → List ℕ → List ℕ → Words → Words
names_in chosen one two [] = []
names_in chosen one two (word ∷ rest) =
    if is_name word && chosen (bytes_eq one (codes "event") && bytes_eq two (codes "("))
    then word ∷ names_in chosen two word rest else names_in chosen two word rest

-- Each of the names once, by first use.
abbrev pub first_uses : Words → Words
first_uses [] = []
first_uses (name ∷ rest) = name ∷ filter (λ other. not (bytes_eq other name)) (first_uses rest)

abbrev pub names_among : Words → Vocabulary
names_among words =
    record {
      names = first_uses (names_in not [] [] words);
      events = first_uses (names_in (λ of_event. of_event) [] [] words);
    }

-- The number of a name is its place among these, and NAMES_MAX behind the first NAMES_MAX.
abbrev pub place_in : Words → List ℕ → ℕ
place_in names name = min (unwrap_or (place_of names name) NAMES_MAX) NAMES_MAX

-- The units of a number; where it is none, or is above the latest time, the one number after that.
abbrev pub units_within : ℕ → List ℕ → ℕ
units_within scale text = min (unwrap_or (units_of scale text) (TIME_MAX + 1)) (TIME_MAX + 1)
