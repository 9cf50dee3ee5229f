-- What a name is.
use Rattle.std.specs.Prelude.{ℕ, Bool, ◌==◌, ◌||◌, List, [], ◌∷◌, IsTrue}
use Rattle.std.specs.Char.{is_ascii_alphabetic, is_ascii_alphanumeric}
use Rattle.std.specs.List.{AllPass, list_any}
use Rattle.std.specs.Str.{bytes_eq}
use Rattle.tre_state.specs.declared.name.TheConstants.{RESERVED}

-- A letter A to Z or a to z, or the underscore (95).
abbrev pub starts_name : ℕ → Bool
starts_name byte = is_ascii_alphabetic byte || byte == 95

-- A letter, a digit, the underscore (95) or the full stop (46).
abbrev pub continues_name : ℕ → Bool
continues_name byte = is_ascii_alphanumeric byte || byte == 95 || byte == 46

-- The bytes are spelt as a name is: one that starts it, then any number that go on with it.
abbrev pub IsWord : List ℕ → Type 0
IsWord [] = ⊥
IsWord (first ∷ rest) = IsTrue (starts_name first) × AllPass continues_name rest

-- One of the words that expressions keep for themselves.
abbrev pub is_reserved : List ℕ → Bool
is_reserved bytes = list_any (λ word. bytes_eq word.now bytes) RESERVED

-- The bytes are a name: spelt as one, and no reserved word.
abbrev pub IsName : List ℕ → Type 0
IsName bytes = IsWord bytes × ¬ IsTrue (is_reserved bytes)
