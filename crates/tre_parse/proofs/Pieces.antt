-- What the limits are looked for in: of a word and of its token they say the same.
use Rattle.std.proofs.Common.{◌≡◌, ℕ, ◌+◌, ◌-◌, Bool, true, false, cond, not, ◌&&◌, ◌||◌, Some, None, List, [], ◌∷◌, length, refl, sym, ◌∙◌, ap}
use Rattle.std.specs.Prelude.{codes, nat_lt, if◌then◌else◌, position, map}
use Rattle.std.specs.List.{list_any, position_or_len}
use Rattle.std.specs.Str.{bytes_eq}
use Rattle.std.proofs.lemmas.Bool.{false≢true}
use Rattle.std.proofs.lemmas.List.{length-map}
use Rattle.std.proofs.lemmas.Slice.Eq.{bytes_eq-Decides}
use Rattle.tre_pairs.specs.declared.TheConstants.{TIME_MAX}
use Rattle.tre_trace.specs.Reading.{Vocabulary}
use Rattle.tre_state.proofs.Places.{position-map}
use Rattle.tre_parse.specs.declared.token.Token.{Token}
use Rattle.tre_parse.specs.declared.token.Token.TheVariants.{Name, EventName, Number}
use Rattle.tre_parse.specs.Words.{is_name, is_number, units_within}
use Rattle.tre_parse.specs.TokenWords.{text_of, Stands, Piece, words_by, tokens_by}
use Rattle.tre_parse.specs.Outcome.{is_big, open_after}
use Rattle.tre_parse.specs.Limits.{is_above}
use Rattle.tre_parse.proofs.Spelt.{number_no_name}

-- It is no sign.
abbrev pub IsNoSign : List ℕ → Type 0
IsNoSign word = (other : List ℕ) → is_name other ≡ false → is_number other ≡ false
    → bytes_eq word other ≡ false

differs : (word other : List ℕ) → (word ≡ other → ⊥) → bytes_eq word other ≡ false
differs word other never = by (bytes_eq word other) refl
  where
    by : (is : Bool) → bytes_eq word other ≡ is → bytes_eq word other ≡ false
    by true e = absurd (never ((bytes_eq-Decides word other).0 e))
    by false e = e

pub name_differs : (word : List ℕ) → is_name word ≡ true → IsNoSign word
name_differs word h other n m =
    differs word other (λ e. false≢true (sym n ∙ ap is_name (sym e) ∙ h))

pub number_differs : (word : List ℕ) → is_number word ≡ true → IsNoSign word
number_differs word h other n m =
    differs word other (λ e. false≢true (sym m ∙ ap is_number (sym e) ∙ h))

unopened : (depth : ℕ) (word : List ℕ) → IsNoSign word → open_after depth word ≡ depth
unopened depth word differ =
    let a = differ (codes "(") refl refl in
    let b = differ (codes "[") refl refl in
    let c = differ (codes "{") refl refl in
    let d = differ (codes ")") refl refl in
    let e = differ (codes "]") refl refl in
    let f = differ (codes "}") refl refl in
    by (bytes_eq word (codes "(")) (bytes_eq word (codes "[")) (bytes_eq word (codes "{"))
    (bytes_eq word (codes ")")) (bytes_eq word (codes "]")) (bytes_eq word (codes "}")) a b c d e f
  where
    by : (a b c d e f : Bool) → a ≡ false → b ≡ false → c ≡ false → d ≡ false → e ≡ false
        → f ≡ false → (if a || (b || (c || false)) then depth + 1
        else (if d || (e || (f || false)) then depth - 1 else depth)) ≡ depth
    by false false false false false false p q r s t u = refl
    by true b c d e f p q r s t u = absurd (false≢true (sym p))
    by false true c d e f p q r s t u = absurd (false≢true (sym q))
    by false false true d e f p q r s t u = absurd (false≢true (sym r))
    by false false false true e f p q r s t u = absurd (false≢true (sym s))
    by false false false false true f p q r s t u = absurd (false≢true (sym t))
    by false false false false false true p q r s t u = absurd (false≢true (sym u))

pub name_no_number : (word : List ℕ) → is_name word ≡ true → is_number word ≡ false
name_no_number word h = by (is_number word) refl
  where
    by : (is : Bool) → is_number word ≡ is → is_number word ≡ false
    by true e = absurd (false≢true (sym (number_no_name 0 (record { names = []; events = [] }) word e) ∙ h))
    by false e = e

same_position : {X : Type 0} (p q : X → Bool) → ((x : X) → p x ≡ q x) → (xs : List X)
    → position_or_len p xs ≡ position_or_len q xs
same_position p q same [] = refl
same_position p q same (x ∷ xs) =
    ap (λ (is : Bool). cond (not is) (1 + position_or_len p xs) 0) (same x)
    ∙ ap (λ n. cond (not (q x)) (1 + n) 0) (same_position p q same xs)

pub alike_position : {X : Type 0} (p q : X → Bool) → ((x : X) → p x ≡ q x) → (xs : List X)
    → position p xs ≡ position q xs
alike_position p q same xs =
    ap (λ n. cond (nat_lt n (length xs)) (Some n) None) (same_position p q same xs)

module _ (scale : ℕ) (known : Vocabulary) where
  pub opened : (depth : ℕ) (word : List ℕ) (token : Token) → Stands scale known word token
      → open_after depth word ≡ open_after depth (text_of token)
  opened depth word (Name i) h = unopened depth word (name_differs word h.0)
  opened depth word (EventName i) h = unopened depth word (name_differs word h.0)
  opened depth word (Number n) h = unopened depth word (number_differs word h.0)
  opened depth word _ h = ap (open_after depth) h

  above : (word : List ℕ) (token : Token) → Stands scale known word token
      → is_big scale word ≡ is_above token
  above word (Name i) h =
      ap (λ yes. yes && nat_lt TIME_MAX (units_within scale word)) (name_no_number word h.0)
  above word (EventName i) h =
      ap (λ yes. yes && nat_lt TIME_MAX (units_within scale word)) (name_no_number word h.0)
  above word (Number n) h =
      ap (λ yes. yes && nat_lt TIME_MAX (units_within scale word)) h.0
      ∙ ap (nat_lt TIME_MAX) (sym h.1)
  above word _ h = ap (is_big scale) h

  pub same_big : (pieces : List (Piece scale known))
      → position (is_big scale) (words_by scale known pieces)
      ≡ position is_above (tokens_by scale known pieces)
  same_big pieces =
      let word = λ (piece : Piece scale known). piece.word in
      let token = λ (piece : Piece scale known). piece.token in
      position-map word (is_big scale) pieces
      ∙ alike_position (λ (piece : Piece scale known). is_big scale piece.word)
      (λ (piece : Piece scale known). is_above piece.token)
      (λ (piece : Piece scale known). above piece.word piece.token piece.stands) pieces
      ∙ sym (position-map token is_above pieces)
