-- Definitions of names by the signals of a dump: what a text of them says, and what each reads.
use Rattle.std.specs.Prelude.{◌≡◌, ℕ, ◌+◌, ◌<◌, ◌-◌, ◌^◌, nat_le, nat_lt, not, Bool, ◌&&◌, ◌||◌, ◌==◌, true, false, List, [], ◌∷◌, ◌++◌, length, codes, Option, Some, None, option_and_then, if◌then◌else◌}
use Rattle.std.specs.Char.{is_ascii_digit, is_digit}
use Rattle.std.specs.List.{list_all, list_any, prefix_len}
use Rattle.std.specs.Str.Parse.{digits_value}
use Rattle.tre_state.specs.Name.{IsName}
use Rattle.tre_define.specs.Named.{part_named}
use Rattle.tre_define.specs.Texts.{Define, PartsAreRefused, IsSpaced, is_space, named, sign_text}
use Rattle.tre_define.specs.Values.{one_bit}
use Rattle.tre_define.specs.declared.let_fault.LetFault.{LetFault}
use Rattle.tre_define.specs.declared.part.Part.{Part}
use Rattle.tre_define.specs.declared.reads.Reads.{Reads}
use Rattle.tre_define.specs.declared.reads.Reads.TheVariants.{Beside, Bit, Changes, Compared, Has}
use Rattle.tre_define.specs.declared.test.Asks.TheVariants.{Compares, Has as HasLetter}
use Rattle.tre_define.specs.declared.test.Test.{Test}

-- A name stands for what is read of what a text names of a signal, and for some reads of what
-- another text names of another.
pub record SignalDefined : Type 0 where
  pub name : List ℕ
  pub signal : List ℕ
  pub reads : Reads
  pub other : List ℕ

abbrev pub name_of_signal : SignalDefined → List ℕ
name_of_signal defined = defined.name

abbrev pub signal_definition_of : List SignalDefined → List ℕ → Option SignalDefined
signal_definition_of definitions name = named name_of_signal definitions name

-- ---- what a definition reads

abbrev pub part_of_text : List ℕ → List ℕ → ℕ → Option Part
part_of_text text full_name size = if size == 0 then None else part_named text full_name size

-- the test that is read of a part; a bit alone is one bit
abbrev pub test_of : Reads → Part → Option Test
test_of Bit part = if part.width == 1 then Some (one_bit part) else None
test_of (Compared comparison number) part =
    Some (record { part = part; asks = Compares comparison number })
test_of (Has letter) part = Some (record { part = part; asks = HasLetter letter })
test_of _ part = None

abbrev pub test_in : SignalDefined → List ℕ → ℕ → Option Test
test_in defined full_name size =
    option_and_then (test_of defined.reads) (part_of_text defined.signal full_name size)

abbrev pub changing : Reads → Option Part → Option Part
changing Changes part = part
changing _ part = None

abbrev pub changes_in : SignalDefined → List ℕ → ℕ → Option Part
changes_in defined full_name size =
    changing defined.reads (part_of_text defined.signal full_name size)

-- ---- the text of a definition

-- a space (32), or the first byte of a comparison's sign: `<` (60), `=` (61), `>` (62) or `!` (33)
abbrev pub ends_signal : ℕ → Bool
ends_signal byte = byte == 32 || byte == 60 || byte == 61 || byte == 62 || byte == 33

abbrev pub is_no_space : ℕ → Bool
is_no_space byte = not (is_space byte)

-- How many bytes in front are the text of a signal: those up to the next space or sign, and from
-- the first backslash (92) on those up to the next space alone.
abbrev pub signal_len : List ℕ → ℕ
signal_len [] = 0
signal_len (byte ∷ bytes) =
    if byte == 92 then prefix_len is_no_space (byte ∷ bytes)
    else (if ends_signal byte then 0 else 1 + signal_len bytes)

-- The signal's text is all of that, and not empty; this stands behind it.
pub record IsSignal (signal behind : List ℕ) : Type 0 where
  pub some : 0 < length signal
  pub all : signal_len (signal ++ behind) ≡ length signal

-- the number that digits of a base write, below 2^64
abbrev pub based : ℕ → List ℕ → Option ℕ
based base digits =
    if nat_lt 0 (length digits) && list_all (λ byte. is_digit byte base) digits
    && nat_le (digits_value base digits) (2 ^ 64 - 1)
    then Some (digits_value base digits) else None

-- The number that a text writes: hexadecimal digits behind `0x` (48 120), binary ones behind `0b`
-- (48 98), or decimal ones.
abbrev pub number_in : List ℕ → Option ℕ
number_in [] = None
number_in (byte ∷ []) = based 10 (byte ∷ [])
number_in (byte ∷ next ∷ digits) =
    if byte == 48 && next == 120 then based 16 digits
    else (if byte == 48 && next == 98 then based 2 digits else based 10 (byte ∷ next ∷ digits))

-- It can't be the text of a second signal: it begins with a digit, `+` (43) or `-` (45).
abbrev pub begins_number : List ℕ → Bool
begins_number [] = false
begins_number (byte ∷ _) = is_ascii_digit byte || byte == 43 || byte == 45

-- the letters of bits, in lower case
abbrev pub is_letter : ℕ → Bool
is_letter byte = list_any (λ letter. byte == letter) (codes "01xzuwlh-")

-- This is read, and the text of a second signal, by what stands behind that of the first.
abbrev pub IsReadBehind : Reads → List ℕ → List ℕ → Type 0
IsReadBehind Bit other behind = (other ≡ []) × IsSpaced [] behind
IsReadBehind (Compared comparison number) other behind =
    (other ≡ []) × (digits : List ℕ) × (number_in digits ≡ Some number)
    × IsSpaced (sign_text comparison ∷ digits ∷ []) behind
IsReadBehind Changes other behind = (other ≡ []) × IsSpaced (codes "changes" ∷ []) behind
IsReadBehind (Has letter) other behind =
    (other ≡ []) × (is_letter letter ≡ true)
    × IsSpaced (codes "has " ∷ (letter ∷ []) ∷ []) behind
IsReadBehind (Beside comparison) other behind =
    IsSignal other [] × (begins_number other ≡ false)
    × IsSpaced (sign_text comparison ∷ other ∷ []) behind

-- The text is this definition: a name and `=`, a signal's text, and what is read of it.
pub record Spells (text : List ℕ) (defined : SignalDefined) : Type 0 where
  pub front : List ℕ
  pub behind : List ℕ
  pub split : text ≡ front ++ (defined.signal ++ behind)
  pub spaced : IsSpaced (defined.name ∷ codes "=" ∷ []) front
  pub name : IsName defined.name
  pub signal : IsSignal defined.signal behind
  pub read : IsReadBehind defined.reads defined.other behind

-- ---- the definitions of a text

abbrev pub DefineSignals : List (List ℕ) → List SignalDefined → Type 0
DefineSignals parts definitions = Define Spells name_of_signal parts definitions

abbrev pub AreRefused : List (List ℕ) → LetFault → Type 0
AreRefused parts fault = PartsAreRefused Spells name_of_signal parts fault
