-- What plain lines say, word by word.
use Rattle.std.specs.Prelude.{◌≡◌, ◌⊎◌, ℕ, ◌+◌, ◌<◌, true, false, ◌==◌, List, [], ◌∷◌, ◌++◌, length, slice_index_or}
use Rattle.std.specs.Char.{is_newline}
use Rattle.std.specs.List.{list_all}
use Rattle.tre_parts.specs.Walk.{HasNoSeparator}
use Rattle.tre_text.specs.Lines.{IsLength, bits_after}
use Rattle.tre_text.specs.TextReading.{is_blank, begins_comment, spells_word, fields_among}
use Rattle.tre_text.specs.declared.open_line.OpenLine.{OpenLine}
use Rattle.tre_text.specs.declared.skim.BehindWord.{BehindWord}
use Rattle.tre_text.specs.declared.skim.BehindWord.TheVariants.{Blank, End, Other}
use Rattle.tre_trace.specs.Reading.{Vocabulary}

abbrev pub asked_of : List (List ℕ) → List (List ℕ) → Vocabulary
asked_of names events = record { names = names; events = events }

-- No field was read.
pub record IsBlankLine (fields : List (List ℕ)) (line : OpenLine) : Type 0 where
  pub none : fields ≡ []
  pub len : line.len ≡ 0
  pub val : line.val ≡ 0

-- The first field is a duration behind a trace that ends there, and the others are names: those of
-- what is true.
pub record FieldsAreEntered (names : List (List ℕ)) (scale end : ℕ) (fields : List (List ℕ))
    (line : OpenLine) : Type 0 where
  pub first : List ℕ
  pub others : List (List ℕ)
  pub is : fields ≡ first ∷ others
  pub no_comment : begins_comment first ≡ false
  pub length : IsLength scale end first line.len
  pub words : list_all spells_word others ≡ true
  pub val : line.val ≡ bits_after names 0 others

-- what the fields of a line said so far, behind a trace that ends there
abbrev pub IsOpened : List (List ℕ) → ℕ → ℕ → List (List ℕ) → OpenLine → Type 0
IsOpened names scale end fields line =
    IsBlankLine fields line ⊎ FieldsAreEntered names scale end fields line

-- What stands at the place behind a word: a blank; a line end, with a carriage return in front of
-- it or not; or anything else.
abbrev pub IsBehindWord : List ℕ → ℕ → BehindWord → Type 0
IsBehindWord bytes place Blank = is_blank (slice_index_or bytes place 0) ≡ true
IsBehindWord bytes place (End end) =
    (is_newline (slice_index_or bytes end 0) ≡ true)
    × ((end < length bytes)
    × ((end ≡ place) ⊎ ((slice_index_or bytes place 0 ≡ 13) × (end ≡ place + 1))))
IsBehindWord bytes place Other = Unit {0}

-- What stands in front of a place on a line that was read so far: neither a line end nor a carriage
-- return, and these fields, whatever stands behind it.
pub record IsFront (front : List ℕ) (fields : List (List ℕ)) : Type 0 where
  pub unbroken : HasNoSeparator is_newline front
  pub no_return : HasNoSeparator (λ byte. byte == 13) front
  pub cut : (back : List ℕ) → fields_among (front ++ back) ≡ fields ++ fields_among back

-- The line so far is open, and its fields said this.
pub record LineIsOpen (names : List (List ℕ)) (scale end : ℕ) (front : List ℕ) (line : OpenLine)
    : Type 0 where
  pub fields : List (List ℕ)
  pub front_is : IsFront front fields
  pub opened : IsOpened names scale end fields line
