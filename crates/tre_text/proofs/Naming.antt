-- The bits of the names that stand among fields.
use Rattle.std.proofs.Common.{◌≡◌, ◌≢◌, ◌↔◌, ℕ, suc, ◌+◌, ◌*◌, ◌/◌, ◌%◌, ◌^◌, ◌<◌, nat_lt, Bool, true, false, ◌||◌, cond, not, List, [], ◌∷◌, ◌++◌, length, get_or, Option, None, Some, All, AllPairs, Contains, refl, sym, ap, ap₂, ◌∙◌, arith, if◌then◌else◌, rules}
use Rattle.std.proofs.Math.Nat.{pow-suc}
use Rattle.std.proofs.lemmas.Bool.{false_from_ne_true}
use Rattle.std.proofs.lemmas.List.Elements.{All-tail}
use Rattle.std.proofs.lemmas.List.Folds.{Any-from_list_any, list_any_at}
use Rattle.std.proofs.lemmas.Slice.Eq.{bytes_eq-Decides}
use Rattle.std.specs.Int.Bits.{bit_or, or_step, or_zero_r}
use Rattle.std.specs.List.{position_or_len}
use Rattle.std.specs.Option.{option_map, option_map_or}
use Rattle.std.specs.Str.{bytes_eq}
use Rattle.tre_state.specs.Names.{place_of}
use Rattle.tre_text.specs.Lines.{bits_after, with_name}
use Rattle.tre_text.specs.TextReading.{is_among}
use Rattle.tre_trace.specs.Reading.{bits_of}
use Rattle.tre_trace.specs.Segments.{segment_with}

-- the bits, with this one set besides, where there is one
abbrev with_bit : ℕ → Option ℕ → ℕ
with_bit bits place = option_map_or (λ bit. bit_or bits (2 ^ bit)) place bits

low_bit : (bit rest : ℕ) → bit < 2 → (bit + 2 * rest) % 2 ≡ bit
low_bit bit rest is = omega arith

other_bits : (bit rest : ℕ) → bit < 2 → (bit + 2 * rest) / 2 ≡ rest
other_bits bit rest is = omega arith

-- ---- the place of a name behind another

abbrev placed : Bool → ℕ → ℕ → Option ℕ
placed same n m =
    cond (nat_lt (cond (not same) (1 + n) 0) (suc m)) (Some (cond (not same) (1 + n) 0)) None

module _ (names : List (List ℕ)) (name field : List ℕ) where
  abbrev here : Bool → Option ℕ
  here same = placed same (position_or_len (bytes_eq field) names) (length names)

  place-first : bytes_eq field name ≡ true → place_of (name ∷ names) field ≡ Some 0
  place-first same = search rules

  place-later : bytes_eq field name ≡ false
      → place_of (name ∷ names) field ≡ option_map suc (place_of names field)
  place-later apart = search rules

-- ---- a bit that is set besides

set_low : (bit rest : ℕ) → bit < 2 → bit_or (bit + 2 * rest) (2 ^ 0) ≡ 1 + 2 * rest
set_low bit rest is = search (rules, bit_or, other_bits, or_zero_r, or_step, low_bit)

set_high : (bit rest place : ℕ) → bit < 2
    → bit_or (bit + 2 * rest) (2 ^ suc place) ≡ bit + 2 * bit_or rest (2 ^ place)
set_high bit rest place is = search (rules, pow-suc, bit_or, other_bits, or_step, low_bit)

with_bit-later : (bit rest : ℕ) (place : Option ℕ) → bit < 2
    → with_bit (bit + 2 * rest) (option_map suc place) ≡ bit + 2 * with_bit rest place
with_bit-later bit rest None is = refl
with_bit-later bit rest (Some place) is = set_high bit rest place is

-- ---- bits of names that pass a test

abbrev bit : Bool → ℕ
bit passes = if passes then 1 else 0

bit-small : (passes : Bool) → bit passes < 2
bit-small true = omega arith
bit-small false = omega arith

-- a test that agrees on each of the names
bits-same : (one other : List ℕ → Bool) (names : List (List ℕ))
    → All (λ name. one name ≡ other name) names → bits_of one names ≡ bits_of other names
bits-same one other [] same = refl
bits-same one other (name ∷ names) same =
    ap₂ (λ b rest. bit b + 2 * rest) (same 0 [] (omega arith))
    (bits-same one other names (All-tail (λ name. one name ≡ other name) name names same))

pub bits-alike : (one other : List ℕ → Bool) (names : List (List ℕ))
    → ((name : List ℕ) → one name ≡ other name) → bits_of one names ≡ bits_of other names
bits-alike one other names same = bits-same one other names (λ k d within. same (get_or names k d))

or-false : (b : Bool) → (b || false) ≡ b
or-false true = refl
or-false false = refl

or-true : (b : Bool) → (b || true) ≡ true
or-true true = refl
or-true false = refl

or-assoc : (a b c : Bool) → ((a || b) || c) ≡ (a || (b || c))
or-assoc true b c = refl
or-assoc false b c = refl

-- the bits of the names that pass, with that of the field set besides
bits-with : (test : List ℕ → Bool) (field : List ℕ) (names : List (List ℕ))
    → AllPairs (λ name other. name ≢ other) names
    → with_name names (bits_of test names) field
    ≡ bits_of (λ name. test name || bytes_eq field name) names
bits-with test field [] distinct = refl
bits-with test field (name ∷ names) distinct =
    by (bytes_eq field name) refl
    (bits-with test field names
    (λ i j d before within. distinct (suc i) (suc j) d (omega (arith, before))
    (omega (arith, within))))
  where
    by : (same : Bool) → bytes_eq field name ≡ same
        → with_name names (bits_of test names) field
        ≡ bits_of (λ name. test name || bytes_eq field name) names
        → with_name (name ∷ names) (bits_of test (name ∷ names)) field
        ≡ bits_of (λ name. test name || bytes_eq field name) (name ∷ names)
    by true e rest =
        let same : field ≡ name = (bytes_eq-Decides field name).0 e in
        let stay : bits_of (λ name. test name || bytes_eq field name) names ≡ bits_of test names =
        bits-same (λ name. test name || bytes_eq field name) test names (λ k d within.
        ap (λ (b : Bool). test (get_or names k d) || b) (differs (get_or names k d)
        (λ again. absurd (distinct 0 (suc k) d (omega arith) (omega (arith, within))
        (sym same ∙ again))))
        ∙ or-false (test (get_or names k d))) in
        let own : bit (test name || bytes_eq field name) ≡ 1 =
        ap (λ (b : Bool). bit (test name || b)) e ∙ ap bit (or-true (test name)) in
        ap (with_bit (bits_of test (name ∷ names))) (place-first names name field e)
        ∙ set_low (bit (test name)) (bits_of test names) (bit-small (test name))
        ∙ sym (ap₂ (λ b rest. b + 2 * rest) own stay)
      where
        differs : (other : List ℕ) → (field ≡ other → ⊥) → bytes_eq field other ≡ false
        differs other apart =
            false_from_ne_true (bytes_eq field other)
            (λ eq. apart ((bytes_eq-Decides field other).0 eq))
    by false e rest =
        let own : bit (test name || bytes_eq field name) ≡ bit (test name) =
        ap (λ (b : Bool). bit (test name || b)) e ∙ ap bit (or-false (test name)) in
        ap (with_bit (bits_of test (name ∷ names))) (place-later names name field e)
        ∙ with_bit-later (bit (test name)) (bits_of test names) (place_of names field)
        (bit-small (test name))
        ∙ ap₂ (λ b more. b + 2 * more) (sym own) rest

-- with those of more fields
pub bits-behind : (test : List ℕ → Bool) (fields names : List (List ℕ))
    → AllPairs (λ name other. name ≢ other) names
    → bits_after names (bits_of test names) fields
    ≡ bits_of (λ name. test name || is_among fields name) names
bits-behind test [] names distinct = search rules
bits-behind test (field ∷ fields) names distinct =
    ap (λ bits. bits_after names bits fields) (bits-with test field names distinct)
    ∙ bits-behind (λ name. test name || bytes_eq field name) fields names distinct
    ∙ bits-alike (λ name. (test name || bytes_eq field name) || is_among fields name)
    (λ name. test name || (bytes_eq field name || is_among fields name)) names
    (λ name. or-assoc (test name) (bytes_eq field name) (is_among fields name))

-- no name passes
pub bits-none : (names : List (List ℕ)) → bits_of (λ name. false) names ≡ 0
bits-none [] = refl
bits-none (name ∷ names) = omega (arith, bits-none names)

among-append : (front back : List (List ℕ)) (name : List ℕ)
    → is_among (front ++ back) name ≡ (is_among front name || is_among back name)
among-append [] back name = refl
among-append (field ∷ front) back name =
    ap (λ (rest : Bool). bytes_eq field name || rest) (among-append front back name)
    ∙ sym (or-assoc (bytes_eq field name) (is_among front name) (is_among back name))

-- the bits of what stands on a line
pub bits-on : (fields names : List (List ℕ)) → AllPairs (λ name other. name ≢ other) names
    → bits_after names 0 fields ≡ bits_of (is_among fields) names
bits-on fields names distinct =
    ap (λ bits. bits_after names bits fields) (sym (bits-none names))
    ∙ bits-behind (λ name. false) fields names distinct

-- the bits of what was said, and is said besides
pub bits-said : (said fields names : List (List ℕ)) → AllPairs (λ name other. name ≢ other) names
    → bits_after names (bits_of (is_among said) names) fields
    ≡ bits_of (is_among (said ++ fields)) names
bits-said said fields names distinct =
    search (rules, bits-behind, is_among, bits-alike, among-append)

-- segments of the same parts
pub segment-with : (len val ev one other : ℕ) → val ≡ one → ev ≡ other
    → segment_with len val ev ≡ segment_with len one other
segment-with len val ev one other is also = ap₂ (λ v e. segment_with len v e) is also

-- ---- which names are among them

-- a name is among the fields exactly where it is one of them
pub among-is : (fields : List (List ℕ)) (name : List ℕ)
    → Contains fields name ↔ (is_among fields name ≡ true)
among-is fields name = search (rules, list_any_at, bytes_eq-Decides, Any-from_list_any)
