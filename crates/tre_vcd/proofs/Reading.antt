-- What a token says at a place that the reader holds.
use Rattle.std.proofs.Common.{◌≡◌, ℕ, ◌≤◌, nat_lt, ◌==◌, Bool, false, not, ◌&&◌, List, [], ◌∷◌, length, None, Some, refl, arith, if◌then◌else◌}
use Rattle.std.proofs.lemmas.Bool.Decides.{nat_tests}
use Rattle.tre_trace.specs.declared.fault.TraceKind.TheVariants.{CutShort}
use Rattle.tre_vcd.specs.VcdReading.{Terms, scalar, Statement, change, Open, nothing, section, comment, vector, number, Place, goes_to, scalar_says, token_at, token_says, end_says, is_whole}
use Rattle.tre_vcd.specs.Kept.{ends_true}
use Rattle.tre_vcd.specs.Sections.{Holds, inside_of, is_nothing, command_of}
use Rattle.tre_vcd.specs.declared.command.Command.{Command}
use Rattle.tre_vcd.specs.declared.inside.Inside.TheVariants.{Nothing, Section, Comment, Vector, Number}
use Rattle.tre_vcd.specs.declared.token_reader.TokenReader.{TokenReader}

pub says-empty : (terms : Terms) (place : Place) (part : List ℕ) → length part ≡ 0
    → token_says terms place part ≡ goes_to place.past place.inside
unfolding token_says
says-empty terms place [] empty = refl
says-empty terms place (byte ∷ bytes) empty = absurd (omega (arith, empty))

pub says-letter : (terms : Terms) (place : Place) (part : List ℕ) (letter : ℕ) (rest : List ℕ)
    → part ≡ letter ∷ rest
    → token_says terms place part ≡ token_at terms place.past place.inside part
unfolding token_says
says-letter terms place part letter rest is = rw is refl

pub is-nothing : (inside : Open) → inside_of inside ≡ Nothing → inside ≡ nothing
is-nothing nothing e = refl
is-nothing (section word tokens) e = cc
is-nothing comment e = cc
is-nothing (vector letters) e = cc
is-nothing number e = cc

pub record IsSection (inside : Open) (command : Command) : Type 0 where
  pub word : List ℕ
  pub tokens : List (List ℕ)
  pub is : inside ≡ section word tokens
  pub command_is : command ≡ command_of word

pub is-section : (inside : Open) (command : Command) → inside_of inside ≡ Section command
    → IsSection inside command
is-section nothing command e = absurd (cc)
is-section (section word tokens) command e = record {
  word = word;
  tokens = tokens;
  is = refl;
  command_is = cc;
}
is-section comment command e = absurd (cc)
is-section (vector letters) command e = absurd (cc)
is-section number command e = absurd (cc)

pub is-comment : (inside : Open) → inside_of inside ≡ Comment → inside ≡ comment
is-comment nothing e = cc
is-comment (section word tokens) e = cc
is-comment comment e = refl
is-comment (vector letters) e = cc
is-comment number e = cc

-- a vector is open, whose lowest bit has this value
pub record IsVector (inside : Open) (value : Bool) : Type 0 where
  pub letters : List ℕ
  pub is : inside ≡ vector letters
  pub value_is : value ≡ ends_true letters

pub is-vector : (inside : Open) (value : Bool) → inside_of inside ≡ Vector value
    → IsVector inside value
is-vector nothing value e = absurd (cc)
is-vector (section word tokens) value e = absurd (cc)
is-vector comment value e = absurd (cc)
is-vector (vector letters) value e = record { letters = letters; is = refl; value_is = cc }
is-vector number value e = absurd (cc)

pub is-number : (inside : Open) → inside_of inside ≡ Number → inside ≡ number
is-number nothing e = cc
is-number (section word tokens) e = cc
is-number comment e = cc
is-number (vector letters) e = cc
is-number number e = refl

whole-kept : (inside : Open) → is_nothing (inside_of inside) ≡ is_whole inside
whole-kept nothing = refl
whole-kept (section word tokens) = refl
whole-kept comment = refl
whole-kept (vector letters) = refl
whole-kept number = refl

pub end-held : (reader : TokenReader) (place : Place) (whole : Bool) → Holds reader place
    → whole ≡ (reader.past.is_defined && not reader.past.in_dump && is_nothing reader.inside)
    → end_says place ≡ (if whole then None else Some CutShort)
unfolding end_says
end-held reader place whole holds is =
    rw (is, holds.knows.past.defined, holds.knows.past.dump, holds.inside, whole-kept place.inside) refl

pub scalar-says : (past : List Statement) (letter : ℕ) (identifier : List ℕ)
    → (length identifier == 0) ≡ false
    → scalar_says past letter identifier
    ≡ goes_to (change scalar identifier (letter ∷ []) ∷ past) nothing
scalar-says past letter [] some = absurd (grind (arith, nat_tests))
scalar-says past letter (byte ∷ bytes) some = refl

not_below : (a b : ℕ) → b ≤ a → nat_lt a b ≡ false
not_below a b le = grind (arith, nat_tests)
