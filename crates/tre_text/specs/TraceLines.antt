-- The bytes of a text trace, said of its lines.
use Rattle.std.specs.Prelude.{◌≡◌, ◌≢◌, ◌⊎◌, ℕ, ◌+◌, ◌<◌, ◌≤◌, true, false, None, Some, List, [], ◌∷◌, ◌++◌, length}
use Rattle.std.specs.List.{All, list_all}
use Rattle.std.specs.Char.{is_newline}
use Rattle.tre_pairs.specs.declared.TheConstants.{TIME_MAX}
use Rattle.tre_parts.specs.declared.TheConstants.{PART_MAX}
use Rattle.tre_decimal.specs.Decimal.{units_of}
use Rattle.tre_text.specs.TextReading.{is_blank, fields_of, begins_comment, begins_events, spells_word, stretch_with}
use Rattle.tre_trace.specs.Reading.{Stretch}
use Rattle.tre_trace.specs.declared.fault.TraceKind.{TraceKind}
use Rattle.tre_trace.specs.declared.fault.TraceKind.TheVariants.{BadNumber, Zero, TooLate, BadName}

-- No line end stands in the line, and it has no more bytes than a line may have.
pub record IsLine (line : List ℕ) : Type 0 where
  pub unbroken : All (λ byte. is_newline byte ≡ false) line
  pub short : length line ≤ PART_MAX

-- No line end stands in the bytes, and they are more than a line may have.
pub record IsOverlong (bytes : List ℕ) : Type 0 where
  pub unbroken : All (λ byte. is_newline byte ≡ false) bytes
  pub long : PART_MAX < length bytes

abbrev pub AreLines : List (List ℕ) → Type 0
AreLines [] = Unit {0}
AreLines (line ∷ lines) = IsLine line × AreLines lines

-- The lines, one after the other, each with a line end behind it.
abbrev pub with_line_ends : List (List ℕ) → List ℕ
with_line_ends [] = []
with_line_ends (line ∷ lines) = line ++ 10 ∷ with_line_ends lines

-- neither a space nor a tab stands in the bytes, and there are some
pub record IsField (bytes : List ℕ) : Type 0 where
  pub some : 0 < length bytes
  pub whole : All (λ byte. is_blank byte ≡ false) bytes

-- The line has a first field, and this holds of it and of the others.
pub record HasFields (line : List ℕ) (P : List ℕ → List (List ℕ) → Type 0) : Type 0 where
  pub first : List ℕ
  pub others : List (List ℕ)
  pub fields : fields_of line ≡ first ∷ others
  pub holds : P first others

-- nothing stands on the line, or a comment
abbrev pub IsSilent : List ℕ → Type 0
IsSilent line = (fields_of line ≡ []) ⊎ HasFields line (λ first others. begins_comment first ≡ true)

-- The sign of events stands first, and the others are names: those that happen besides the ones
-- that were said before, and this holds of all of them.
pub record SaysEvents (said : List (List ℕ)) (Later : List (List ℕ) → Type 0) (first : List ℕ)
    (others : List (List ℕ)) : Type 0 where
  pub sign : begins_events first ≡ true
  pub words : list_all spells_word others ≡ true
  pub later : Later (said ++ others)

-- A duration stands first, and the others are names: those of what is true on the stretch.
pub record IsEntry (scale : ℕ) (said : List (List ℕ)) (stretch : Stretch) (first : List ℕ)
    (others : List (List ℕ)) : Type 0 where
  pub duration : units_of scale first ≡ Some stretch.len
  pub words : list_all spells_word others ≡ true
  pub is : stretch ≡ stretch_with stretch.len others said

-- The line says the first of the stretches, at whose begin those happen that were said before it,
-- and this holds of the later ones.
pub record SaysFirst (scale : ℕ) (said : List (List ℕ)) (line : List ℕ) (stretches : List Stretch)
    (Later : List Stretch → Type 0) : Type 0 where
  pub stretch : Stretch
  pub rest : List Stretch
  pub is : stretches ≡ stretch ∷ rest
  pub entry : HasFields line (IsEntry scale said stretch)
  pub later : Later rest

-- Each line is silent, says events or says the next stretch. These are all stretches, and the names
-- that are said behind the last. `said` are those that were said before the first line.
abbrev pub Say : ℕ → List (List ℕ) → List (List ℕ) → List Stretch → List (List ℕ) → Type 0
Say scale said [] stretches last = (stretches ≡ []) × (last ≡ said)
Say scale said (line ∷ lines) stretches last =
    (IsSilent line × Say scale said lines stretches last)
    ⊎ (HasFields line (SaysEvents said (λ all. Say scale all lines stretches last))
    ⊎ SaysFirst scale said line stretches (λ rest. Say scale [] lines rest last))

-- It isn't a number of units, nor the sign of events.
pub record IsNoNumber (scale : ℕ) (first : List ℕ) (others : List (List ℕ)) : Type 0 where
  pub no_comment : begins_comment first ≡ false
  pub no_events : begins_events first ≡ false
  pub no_number : units_of scale first ≡ None

-- It is the number 0.
pub record IsNoTime (scale : ℕ) (first : List ℕ) (others : List (List ℕ)) : Type 0 where
  pub zero : units_of scale first ≡ Some 0

-- It is a number of units that leads past the limit.
pub record IsTooLong (scale end : ℕ) (first : List ℕ) (others : List (List ℕ)) : Type 0 where
  pub units : ℕ
  pub is : units_of scale first ≡ Some units
  pub some : units ≢ 0
  pub late : TIME_MAX < end + units

-- It is a number of units, and one of the others is no name.
pub record HasNoName (scale end : ℕ) (first : List ℕ) (others : List (List ℕ)) : Type 0 where
  pub units : ℕ
  pub is : units_of scale first ≡ Some units
  pub some : units ≢ 0
  pub in_time : end + units ≤ TIME_MAX
  pub no_words : list_all spells_word others ≡ false

-- It is the sign of events, and one of the others is no name.
pub record HasNoEvent (first : List ℕ) (others : List (List ℕ)) : Type 0 where
  pub sign : begins_events first ≡ true
  pub no_words : list_all spells_word others ≡ false

-- The fault of a line at this scale, behind a trace that ends at `end`.
abbrev pub LineHasFault : ℕ → ℕ → List ℕ → TraceKind → Type 0
LineHasFault scale end line BadNumber = HasFields line (IsNoNumber scale)
LineHasFault scale end line Zero = HasFields line (IsNoTime scale)
LineHasFault scale end line TooLate = HasFields line (IsTooLong scale end)
LineHasFault scale end line BadName = HasFields line (HasNoName scale end) ⊎ HasFields line
    HasNoEvent
LineHasFault scale end line _ = ⊥
