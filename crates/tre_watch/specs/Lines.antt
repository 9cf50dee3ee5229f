-- What one line of a file of checks says.
use Rattle.std.specs.Prelude.{◌≡◌, ℕ, ◌+◌, ◌<◌, Bool, true, false, not, ◌||◌, ◌==◌, MatchBool, List, [], ◌∷◌, ◌++◌, Option, Some, None, codes, length, replicate, take, drop, if◌then◌else◌}
use Rattle.std.specs.List.{list_all, prefix_len, starts_with}
use Rattle.std.specs.Str.{IsAscii}
use Rattle.std.specs.Str.Lines.{strip_carriage_return}
use Rattle.tre_state.specs.Name.{starts_name, continues_name, IsName}
use Rattle.tre_watch.specs.declared.form.Form.{Form}
use Rattle.tre_watch.specs.declared.form.Form.TheVariants.{Same, Follows}
use Rattle.tre_watch.specs.Forms.{word_of, arrow_of, has_arrow}

-- ---- the parts of a line

-- A space or a tab.
abbrev pub is_space_or_tab : ℕ → Bool
is_space_or_tab byte = byte == 32 || byte == 9

-- What stands behind the first bytes that pass.
abbrev pub behind_passed : (ℕ → Bool) → List ℕ → List ℕ
behind_passed passes bytes = drop (prefix_len passes bytes) bytes

-- What stands on a line, from its first byte on that is no blank, and without the one carriage
-- return (the byte 13) at its end, where there is one.
abbrev pub content_of : List ℕ → List ℕ
content_of line = behind_passed is_space_or_tab (strip_carriage_return line)

-- Nothing stands there, or a comment: `#` (the byte 35), and any bytes.
abbrev pub is_silent : List ℕ → Bool
is_silent [] = true
is_silent (byte ∷ bytes) = byte == 35

-- The word in front: the longest run of bytes of names.
abbrev pub word_in : List ℕ → List ℕ
word_in bytes = take (prefix_len continues_name bytes) bytes

-- What stands behind that word and blanks.
abbrev pub behind_word : List ℕ → List ℕ
behind_word bytes = behind_passed is_space_or_tab (behind_passed continues_name bytes)

-- This word stands in front, and this behind it and blanks; where there is no word, this is all.
abbrev pub IsOpened : List ℕ → List ℕ → List ℕ → Type 0
IsOpened [] bytes rest = bytes ≡ rest
IsOpened (byte ∷ word) bytes rest = (word_in bytes ≡ byte ∷ word) × (behind_word bytes ≡ rest)

-- A name stands there, blanks if any, `=` (the byte 61), and this text up to the end.
pub record IsNamed (bytes name text : List ℕ) : Type 0 where
  pub is_name : IsName name
  pub word : word_in bytes ≡ name
  pub behind : behind_word bytes ≡ 61 ∷ text

-- ---- the patterns of a check

-- the form whose arrow bytes begin with
abbrev pub form_at : List ℕ → Option Form
form_at bytes =
    if starts_with ◌==◌ bytes (codes "=>") then Some Same
    else (if starts_with ◌==◌ bytes (codes "|->") then Some Follows else None)

-- a text with a space (32) for each of so many bytes in front
abbrev pub blanked : ℕ → List ℕ → List ℕ
blanked count text = replicate count 32 ++ drop count text

-- The first arrow of a text begins at this place, and it is that of this form.
pub record IsFirstArrow (form : Form) (text : List ℕ) (place : ℕ) : Type 0 where
  pub here : form_at (drop place text) ≡ Some form
  pub none : (before : ℕ) → before < place → form_at (drop before text) ≡ None

-- The texts of a check's patterns, by what stands behind its `=`: all of it; or what stands before
-- the first arrow, and what stands behind it, with a space (32) for each byte up to there.
abbrev pub AreTexts : Form → List ℕ → List (List ℕ) → Type 0
AreTexts form text texts =
    MatchBool (has_arrow form)
    ((place : ℕ) × IsFirstArrow form text place
    × (texts ≡ take place text ∷ blanked (place + length (arrow_of form)) text ∷ []))
    (texts ≡ text ∷ [])

-- ---- a line

-- A check of this form and name stands there, with these texts; all of it in bytes below 128.
pub record IsCheck (content : List ℕ) (form : Form) (name : List ℕ) (texts : List (List ℕ))
    : Type 0 where
  pub ascii : IsAscii content
  pub rest : List ℕ
  pub opened : IsOpened (word_of form) content rest
  pub text : List ℕ
  pub named : IsNamed rest name text
  pub are : AreTexts form text texts

-- whether a name may begin there
abbrev pub begins_word : List ℕ → Bool
begins_word [] = false
begins_word (byte ∷ bytes) = starts_name byte

-- A semicolon (59) or a tab stands in no text of one definition.
abbrev pub is_of_definition : ℕ → Bool
is_of_definition byte = not (byte == 59 || byte == 9)

-- The text of a definition stands there, behind its word; all of it in bytes below 128.
pub record IsDefinition (content text : List ℕ) : Type 0 where
  pub ascii : IsAscii content
  pub opened : IsOpened (codes "let") content text
  pub begins : begins_word text ≡ true
  pub one : list_all is_of_definition text ≡ true

-- What a line says: nothing, a check of this form and name with these texts, a definition, or
-- nothing that it may say.
pub data Said : Type 0 where
  silence : Said
  mistake : Said
  check : Form → List ℕ → List (List ℕ) → Said
  definition : List ℕ → Said

-- This stands on a line that says something.
abbrev pub Stands : List ℕ → Said → Type 0
Stands content silence = ⊥
Stands content mistake =
    ((form : Form) (name : List ℕ) (texts : List (List ℕ)) → ¬ IsCheck content form name texts)
    × ((text : List ℕ) → ¬ IsDefinition content text)
Stands content (check form name texts) = IsCheck content form name texts
Stands content (definition text) = IsDefinition content text

-- A line that says nothing has no fault, whatever its bytes.
abbrev pub Says : List ℕ → Said → Type 0
Says line said =
    MatchBool (is_silent (content_of line)) (said ≡ silence) (Stands (content_of line) said)
