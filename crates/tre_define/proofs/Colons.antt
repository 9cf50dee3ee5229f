-- No number has a bracket, and so no range has one between its own.
use Rattle.std.proofs.Common.{◌≡◌, ℕ, zero, suc, ◌+◌, ◌-◌, ◌<◌, ◌≤◌, ◌⊎◌, Bool, true, false, ℤ, pos, neg_ℤ, List, [], ◌∷◌, length, take, drop, get_or, Option, None, Some, option_map, inl, inr, refl, sym, ap, ◌∙◌, arith, rules}
use Rattle.std.specs.Prelude.{position, ◌&&◌, ◌==◌, if◌then◌else◌}
use Rattle.std.specs.List.{after_first, before_first, position_or_len}
use Rattle.std.specs.Str.Parse.{digits_value}
use Rattle.std.proofs.lemmas.Bool.{cases_lt, false≢true}
use Rattle.std.proofs.lemmas.List.{drop_all, get_or-drop, get_or-take, length-drop, length-take}
use Rattle.std.proofs.lemmas.List.Folds.{list_all_at}
use Rattle.std.proofs.lemmas.List.Quantifiers.{position-Some}
use Rattle.std.proofs.lemmas.List.Sums.{passes_at_first, position_or_len_is}
use Rattle.tre_state.proofs.Places.{none_len}
use Rattle.tre_define.specs.Named.{is_colon, number_in, range_between, range_within, small_in}

range_of-none : (left : Option ℤ) → range_within left None ≡ None
range_of-none None = refl
range_of-none (Some left) = refl

failed : (a b c : Bool) (x : ℕ) → b ≡ false → (if (a && b) && c then Some x else None) ≡ None
failed true false c x e = refl
failed false b c x e = refl
failed true true c x e = absurd (false≢true (sym e))

small-bracket : (digits : List ℕ) (k : ℕ) → k < length digits → get_or digits k 0 ≡ 91
    → small_in digits ≡ None
small-bracket digits k below bracket = search (rules, failed, digits_value, list_all_at)

number-bracket : (bytes : List ℕ) (k : ℕ) → k < length bytes → get_or bytes k 0 ≡ 91
    → number_in bytes ≡ None
number-bracket [] k below bracket = refl
number-bracket (byte ∷ bytes) zero below bracket = search rules
number-bracket (byte ∷ bytes) (suc k) below bracket = by (byte == 45) where
  by : (minus : Bool) → (if minus then option_map (λ number. neg_ℤ (pos number)) (small_in bytes)
      else option_map pos (small_in (byte ∷ bytes))) ≡ None
  by true =
      ap (option_map (λ number. neg_ℤ (pos number)))
      (small-bracket bytes k (omega (arith, below)) bracket)
  by false = ap (option_map pos) (small-bracket (byte ∷ bytes) (suc k) below bracket)

-- Bytes without a colon are none,
pub no-colon : (text : List ℕ) → position is_colon text ≡ None → range_between text ≡ None
no-colon text none = search (rules, none_len, is_colon, drop_all, range_within, number_in)

-- and others are cut at the first one.
pub at-colon : (text : List ℕ) (colon : ℕ) → position is_colon text ≡ Some colon
    → range_between text
    ≡ range_within (number_in (take colon text)) (number_in (drop (colon + 1) text))
at-colon text colon found =
    let some = position-Some is_colon text colon 0 found in
    let place : position_or_len is_colon text ≡ colon =
    position_or_len_is is_colon text colon 0 (omega (arith, some.0)) some.2 (λ below. some.1) in
    ap (λ n. range_within (number_in (take n text)) (number_in (drop (n + 1) text))) place

-- A text of two numbers is a range where both are.
pub no-left : (text : List ℕ) (colon : ℕ) → position is_colon text ≡ Some colon
    → number_in (take colon text) ≡ None → range_between text ≡ None
no-left text colon found none =
    at-colon text colon found
    ∙ ap (λ left. range_within left (number_in (drop (colon + 1) text))) none

pub no-right : (text : List ℕ) (colon : ℕ) → position is_colon text ≡ Some colon
    → number_in (drop (colon + 1) text) ≡ None → range_between text ≡ None
no-right text colon found none =
    at-colon text colon found ∙ ap (range_within (number_in (take colon text))) none
    ∙ range_of-none (number_in (take colon text))

-- Bytes with a bracket are no range.
pub bracket-inside : (text : List ℕ) (place : ℕ) → place < length text → get_or text place 0 ≡ 91
    → range_between text ≡ None
bracket-inside text place within bracket =
    by (cases_lt place colon) (cases_lt colon place) where
      colon : ℕ
      colon = position_or_len is_colon text

      by : (place < colon) ⊎ (colon ≤ place) → (colon < place) ⊎ (place ≤ colon)
          → range_between text ≡ None
      by (inl before) other =
          let long : place < length (take colon text) =
          omega (arith, before, within, length-take colon text) in
          ap (λ left. range_within left (number_in (after_first is_colon text)))
          (number-bracket (before_first is_colon text) place long
          (get_or-take colon text place 0 before ∙ bracket))
      by (inr past) (inl behind) =
          let long : place - (colon + 1) < length (drop (colon + 1) text) =
          omega (arith, behind, within, length-drop (colon + 1) text) in
          let here : (colon + 1) + (place - (colon + 1)) ≡ place = omega (arith, behind) in
          ap (range_within (number_in (before_first is_colon text)))
          (number-bracket (after_first is_colon text) (place - (colon + 1)) long
          (get_or-drop (colon + 1) text (place - (colon + 1)) 0
          ∙ ap (λ n. get_or text n 0) here ∙ bracket))
          ∙ range_of-none (number_in (before_first is_colon text))
      by (inr past) (inr at) =
          let same : colon ≡ place = omega (arith, past, at) in
          let is : is_colon (get_or text colon 0) ≡ true =
          passes_at_first is_colon text 0 (omega (arith, same, within)) in
          absurd (false≢true
          (sym (ap (λ n. is_colon (get_or text n 0)) same ∙ ap is_colon bracket) ∙ is))
