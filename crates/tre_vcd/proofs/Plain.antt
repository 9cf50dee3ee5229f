-- What the lowest bit of a value says.
use Rattle.std.proofs.Common.{◌≡◌, ℕ, suc, ◌+◌, ◌==◌, nat_le, Bool, true, false, ◌&&◌, ◌||◌, List, [], ◌∷◌, length, drop, None, Some, pos, refl, sym, ap, ◌∙◌, arith, if◌then◌else◌, rules}
use Rattle.std.specs.List.{list_all}
use Rattle.std.specs.Str.Parse.{digits_value}
use Rattle.std.proofs.lemmas.List.{take_all}
use native.Mathlib.Numerals.{unary_clauses}
use Rattle.std.proofs.lemmas.Bool.Decides.{nat_tests}
use Rattle.tre_define.specs.Values.{compares_known, is_bit, is_known, letters_of, passes, plain_test}
use Rattle.tre_define.specs.declared.comparison.Comparison.TheVariants.{Equal}
use Rattle.tre_define.specs.declared.part.Part.{Part}
use Rattle.tre_vcd.specs.Kept.{ends_true}

by-letter : (letter : ℕ) (zero one : Bool) → (letter == 48) ≡ zero → (letter == 49) ≡ one
    → passes plain_test (letter ∷ []) ≡ one
by-letter letter true one is e = search rules
by-letter letter false true is e = search rules
by-letter letter false false is e = rw (is, e) refl

plain-letter : (letter : ℕ) → passes plain_test (letter ∷ []) ≡ (letter == 49)
plain-letter letter = by-letter letter (letter == 48) (letter == 49) refl refl

-- the letters in front don't count
abbrev lowest : Part
lowest = record { low = 0; width = 1 }

le-one : (n : ℕ) → nat_le (0 + 1) (suc n) ≡ true
le-one n = grind (arith, nat_tests)

known-one : (letter : ℕ) (rest : List ℕ) → is_known lowest (letter ∷ rest) ≡ true
known-one letter rest = ap (λ b. b || is_bit letter) (le-one (length rest))

last-of : (letter : ℕ) (rest : List ℕ)
    → letters_of lowest (letter ∷ rest) ≡ drop (length rest) (letter ∷ rest)
last-of letter rest = search (rules, take_all)

compared : Bool → List ℕ → Bool
compared known letters =
    compares_known Equal
    (if known && list_all is_bit letters then Some (digits_value 2 letters) else None) (Some 1)

plain-longer : (first second : ℕ) (rest : List ℕ)
    → passes plain_test (first ∷ second ∷ rest) ≡ passes plain_test (second ∷ rest)
unfolding compared
plain-longer first second rest = search (rules, compared, known-one, last-of)

last-longer : (first second : ℕ) (rest : List ℕ)
    → ends_true (first ∷ second ∷ rest) ≡ ends_true (second ∷ rest)
last-longer first second rest = simp unary_clauses refl

pub plain-is : (letters : List ℕ) → passes plain_test letters ≡ ends_true letters
plain-is [] = refl
plain-is (letter ∷ []) = plain-letter letter
plain-is (first ∷ second ∷ rest) =
    plain-longer first second rest ∙ plain-is (second ∷ rest)
    ∙ sym (last-longer first second rest)
