-- Options as they are typed, with a pattern's text.
use Rattle.std.specs.Prelude.{◌≡◌, ◌≢◌, ◌⊎◌, ℕ, Bool, true, List, [], ◌∷◌, ◌++◌, Option, None, Some, codes, if◌then◌else◌}
use Rattle.std.specs.List.{flat_map, list_any}
use Rattle.std.specs.Option.{option_or}
use Rattle.std.specs.Str.{bytes_eq}

abbrev pub Text : Type 0
Text = List ℕ

-- An option as it is typed: `--name`, `--name=value`, or `--name value`.
pub data Setting : Type 0 where
  flag : Text → Setting
  joined : Text → Text → Setting
  apart : Text → Text → Setting

-- the options without a value
abbrev pub flags : List Text
flags = codes "online" ∷ codes "show" ∷ codes "normal" ∷ []

-- those with one
abbrev pub options : List Text
options =
    codes "format" ∷ codes "input" ∷ codes "max-bytes" ∷ codes "scale" ∷ codes "max-zones"
    ∷ codes "minus" ∷ codes "let" ∷ codes "define" ∷ codes "unit" ∷ []

abbrev pub is_among : List Text → Text → Bool
is_among names name = list_any (λ one. bytes_eq one name) names

abbrev pub words_of_setting : Setting → List Text
words_of_setting (flag name) = (codes "--" ++ name) ∷ []
words_of_setting (joined name value) = (codes "--" ++ name ++ codes "=" ++ value) ∷ []
words_of_setting (apart name value) = (codes "--" ++ name) ∷ value ∷ []

abbrev pub name_of_setting : Setting → Text
name_of_setting (flag name) = name
name_of_setting (joined name value) = name
name_of_setting (apart name value) = name

-- what it says; a flag says `true`
abbrev pub value_of : Setting → Text
value_of (flag name) = codes "true"
value_of (joined name value) = value
value_of (apart name value) = value

-- what the first of the settings with this name says
abbrev pub value_in : Text → List Setting → Option Text
value_in name [] = None
value_in name (setting ∷ settings) =
    if bytes_eq (name_of_setting setting) name then Some (value_of setting) else value_in name
    settings

-- It doesn't begin with `-`, or is just that.
abbrev pub IsPlain : Text → Type 0
IsPlain word = (word ≡ codes "-") ⊎ ((rest : Text) → word ≢ codes "-" ++ rest)

-- its name is that of an option; a value that is a word of its own is no option
abbrev pub IsTyped : Setting → Type 0
IsTyped (flag name) = is_among flags name ≡ true
IsTyped (joined name value) = is_among options name ≡ true
IsTyped (apart name value) = (is_among options name ≡ true) × IsPlain value

-- Each is typed, and no later one has its name.
abbrev pub AreTyped : List Setting → Type 0
AreTyped [] = Unit {0}
AreTyped (setting ∷ settings) =
    IsTyped setting × (value_in (name_of_setting setting) settings ≡ None) × AreTyped settings

-- The words are the settings and the text: it stands among them, where it is no option, and `--`
-- may stand behind all; or it stands behind them and `--`, whatever it is.
pub data Types (words : List Text) (settings : List Setting) (text : Text) : Type 0 where
  among : (before after : List Setting) (end : List Text) → settings ≡ before ++ after
      → IsPlain text → (end ≡ []) ⊎ (end ≡ codes "--" ∷ [])
      → words ≡ flat_map words_of_setting before
      ++ (text ∷ (flat_map words_of_setting after ++ end))
      → Types words settings text
  behind : words ≡ flat_map words_of_setting settings ++ (codes "--" ∷ text ∷ [])
      → Types words settings text

-- What an option says that isn't typed: no flag is given, and some options have a value.
abbrev pub default_of : Text → Option Text
default_of name =
    if bytes_eq (codes "online") name then Some (codes "false")
    else (if bytes_eq (codes "show") name then Some (codes "false")
    else (if bytes_eq (codes "format") name then Some (codes "text")
    else (if bytes_eq (codes "input") name then Some (codes "-")
    else (if bytes_eq (codes "max-bytes") name then Some (codes "1073741824")
    else (if bytes_eq (codes "scale") name then Some (codes "0")
    else (if bytes_eq (codes "normal") name then Some (codes "false") else None))))))

-- what the settings say of an option
abbrev pub said : List Setting → Text → Option Text
said settings name = option_or (value_in name settings) (default_of name)
