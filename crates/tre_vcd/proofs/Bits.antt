-- What a change of one bit says.
use Rattle.std.proofs.Common.{◌≡◌, ℕ, ◌==◌, ◌||◌, ◌&&◌, Bool, true, false, List, [], ◌∷◌, length, map, refl, ap, ◌∙◌, arith, rules}
use Rattle.std.proofs.lemmas.Bool.Decides.{nat_tests}
use Rattle.tre_vcd.specs.VcdReading.{Terms, Statement, scalar, Place, change, is_scalar, is_defined, nothing, goes_to, command_says, scalar_says, value_says, token_at, token_says}
use Rattle.tre_vcd.specs.Sections.{Holds, is_nothing}
use Rattle.tre_vcd.specs.declared.inside.Inside.TheVariants.{Nothing}
use Rattle.tre_vcd.specs.declared.token_reader.TokenReader.{TokenReader}
use Rattle.tre_vcd.proofs.Reading.{says-letter, scalar-says}

bit_scalar : (letter : ℕ) → (letter == 48 || letter == 49) ≡ true → is_scalar letter ≡ true
bit_scalar letter is = grind (arith, nat_tests)

scalar_value : (terms : Terms) (past : List Statement) (letter : ℕ) (identifier : List ℕ)
    → is_scalar letter ≡ true
    → value_says terms past (letter ∷ identifier) ≡ scalar_says past letter identifier
scalar_value terms past letter identifier is = search rules

-- where nothing is open among the values
pub values-say : (terms : Terms) (place : Place) (part : List ℕ) (letter : ℕ) (rest : List ℕ)
    → part ≡ letter ∷ rest → is_defined place.past ≡ true → place.inside ≡ nothing
    → token_says terms place part ≡ value_says terms place.past part
values-say terms place part letter rest is defined open_none =
    says-letter terms place part letter rest is ∙ rw (open_none, defined) refl

pub bit-says : (terms : Terms) (place : Place) (part : List ℕ) (letter : ℕ) (rest : List ℕ)
    → part ≡ letter ∷ rest → (letter == 48 || letter == 49) ≡ true → (length rest == 0) ≡ false
    → is_defined place.past ≡ true → place.inside ≡ nothing
    → token_says terms place part
    ≡ goes_to (change scalar rest (letter ∷ []) ∷ place.past) nothing
bit-says terms place part letter rest is bit some defined open_none =
    values-say terms place part letter rest is defined open_none
    ∙ (ap (value_says terms place.past) is
    ∙ (scalar_value terms place.past letter rest (bit_scalar letter bit)
    ∙ scalar-says place.past letter rest some))

-- Nothing is open, and the place is among the values.
pub record AmongValues (reader : TokenReader) (place : Place) : Type 0 where
  pub defined : is_defined place.past ≡ true
  pub open_none : place.inside ≡ nothing
  pub stays : reader.inside ≡ Nothing
  pub tokens : map (λ token. token.items) reader.tokens.items ≡ []

both : (a b : Bool) → (a && b) ≡ true → (a ≡ true) × (b ≡ true)
both true true is = (refl, refl)
both true false is = absurd (cc (is))
both false b is = absurd (cc (is))

pub nothing-open : (reader : TokenReader)
    → (reader.past.is_defined && is_nothing reader.inside) ≡ true
    → (reader.past.is_defined ≡ true) × (reader.inside ≡ Nothing)
nothing-open reader reads = search rules

pub values-read : (reader : TokenReader) (place : Place) → Holds reader place
    → (reader.past.is_defined && is_nothing reader.inside) ≡ true → AmongValues reader place
values-read reader place holds reads = search rules

pub commands-read : (reader : TokenReader) (place : Place) → Holds reader place
    → (reader.past.is_defined && is_nothing reader.inside) ≡ false → reader.inside ≡ Nothing
    → is_defined place.past ≡ false
commands-read reader place holds reads shut = search rules

pub commands-say : (terms : Terms) (past : List Statement) (part : List ℕ)
    → is_defined past ≡ false → token_at terms past nothing part ≡ command_says terms past part
commands-say terms past part defined = rw defined refl
