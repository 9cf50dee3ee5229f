-- The forms of checks: how each is written, and what it asks for.
use Rattle.std.specs.Prelude.{ℕ, ◌+◌, Bool, true, false, List, [], ◌∷◌, codes, if◌then◌else◌}
use Rattle.tre_watch.specs.declared.form.Form.{Form}
use Rattle.tre_watch.specs.declared.form.Form.TheVariants.{Plain, Never, Found, Same, Follows}

-- the word that a check begins with, where it has one before its name
abbrev pub word_of : Form → List ℕ
word_of Plain = []
word_of Never = codes "never"
word_of Found = codes "some"
word_of Same = codes "each"
word_of Follows = codes "each"

-- what stands between two patterns; without it there is one
abbrev pub arrow_of : Form → List ℕ
arrow_of Plain = []
arrow_of Never = []
arrow_of Found = []
arrow_of Same = codes "=>"
arrow_of Follows = codes "|->"

abbrev pub has_arrow : Form → Bool
has_arrow Plain = false
has_arrow Never = false
has_arrow Found = false
has_arrow Same = true
has_arrow Follows = true

-- A plain check shows its matches, whatever they are; each other one holds or doesn't.
abbrev pub has_verdict : Form → Bool
has_verdict Plain = false
has_verdict Never = true
has_verdict Found = true
has_verdict Same = true
has_verdict Follows = true

-- how many patterns a check has, and how many checks have in all
abbrev pub patterns_of : Form → ℕ
patterns_of form = if has_arrow form then 2 else 1

abbrev pub patterns_in : List Form → ℕ
patterns_in [] = 0
patterns_in (form ∷ forms) = patterns_of form + patterns_in forms
