-- How what stands behind a signal's text is cut.
use Rattle.std.specs.Prelude.{ℕ, nat_lt, Bool, ◌&&◌, ◌==◌, List, [], ◌∷◌, drop, length, take, codes, Option, Some, None, option_map, if◌then◌else◌}
use Rattle.std.specs.Str.{bytes_eq}
use Rattle.tre_state.specs.Name.{continues_name}
use Rattle.tre_define.specs.Pieces.{Signed, behind_piece, past_spaces, piece, sign_in}
use Rattle.tre_define.specs.Signals.{begins_number, is_letter, is_no_space, number_in, signal_len}
use Rattle.tre_define.specs.declared.comparison.Comparison.{Comparison}
use Rattle.tre_define.specs.declared.reads.Reads.{Reads}
use Rattle.tre_define.specs.declared.reads.Reads.TheVariants.{Beside, Bit, Changes, Compared, Has}

-- what is read, and the text of another signal
pub record ReadBehind : Type 0 where
  pub reads : Reads
  pub other : List ℕ

abbrev pub alone : Reads → ReadBehind
alone reads = record { reads = reads; other = [] }

-- whether the text is the word for changes, with spaces round it
abbrev pub is_changes_word : List ℕ → Bool
is_changes_word text =
    bytes_eq (piece continues_name text) (codes "changes")
    && length (behind_piece continues_name text) == 0

-- the letter that the text is, with spaces behind it
abbrev pub letter_alone : List ℕ → Option ℕ
letter_alone [] = None
letter_alone (byte ∷ rest) =
    if is_letter byte && length (past_spaces rest) == 0 then Some byte else None

-- the letter behind the word for it and a space
abbrev pub letter_behind : List ℕ → Option ℕ
letter_behind text =
    if bytes_eq (take 4 text) (codes "has ") then letter_alone (past_spaces (drop 4 text)) else None

abbrev pub asked_by_word : List ℕ → Option Reads
asked_by_word behind =
    if is_changes_word behind then Some Changes
    else option_map Has (letter_behind (past_spaces behind))

-- the number that the text is, with spaces round it
abbrev pub last_number : List ℕ → Option ℕ
last_number text =
    if length (behind_piece is_no_space text) == 0 then number_in (piece is_no_space text)
    else None

-- the text of a signal, with spaces behind it
abbrev pub last_signal : List ℕ → Option (List ℕ)
last_signal text =
    if nat_lt 0 (signal_len text) && length (past_spaces (drop (signal_len text) text)) == 0
    then Some (take (signal_len text) text) else None

-- what is read by what stands behind a sign
abbrev pub read_compared : Comparison → List ℕ → Option ReadBehind
read_compared comparison rest =
    if begins_number (past_spaces rest)
    then option_map (λ number. alone (Compared comparison number)) (last_number rest)
    else option_map (λ other. record { reads = Beside comparison; other = other })
    (last_signal (past_spaces rest))

abbrev pub read_signed : List ℕ → Option Signed → Option ReadBehind
read_signed behind (Some signed) = read_compared signed.comparison signed.rest
read_signed behind None = option_map alone (asked_by_word behind)

-- what is read, by what stands behind the spaces too
abbrev pub read_spaced : List ℕ → List ℕ → Option ReadBehind
read_spaced behind [] = Some (alone Bit)
read_spaced behind text = read_signed behind (sign_in text)

abbrev pub read_behind : List ℕ → Option ReadBehind
read_behind behind = read_spaced behind (past_spaces behind)
