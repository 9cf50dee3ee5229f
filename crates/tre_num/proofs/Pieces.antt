-- A definition is cut into its parts in one way.
use Rattle.std.proofs.Common.{codes, ◌≡◌, ℕ, ◌-◌, ◌<◌, ◌^◌, ℤ, pos, neg_ℤ, Bool, true, false, Some, None, List, [], ◌∷◌, ◌++◌, length, refl, sym, ap, subst, ◌∙◌, arith}
use Rattle.std.specs.Prelude.{◌==◌, ◌&&◌, nat_le, nat_lt, if◌then◌else◌}
use Rattle.std.specs.Char.{is_ascii_digit}
use Rattle.std.specs.List.{list_all}
use Rattle.std.specs.Option.{option_map}
use Rattle.std.specs.Str.Parse.{digits_value}
use Rattle.std.proofs.lemmas.Bool.Decides.{nat_tests}
use Rattle.std.proofs.lemmas.List.{append-nil}
use Rattle.tre_decimal.specs.Decimal.{is_numeral}
use Rattle.tre_state.specs.Name.{continues_name, IsName, IsWord}
use Rattle.tre_define.specs.declared.comparison.Comparison.{Comparison}
use Rattle.tre_define.specs.Pieces.{behind_equals, behind_piece, piece, sign_in}
use Rattle.tre_define.specs.Texts.{IsSpaced, sign_text}
use Rattle.tre_define.proofs.Cutting.{Stops, first, second, piece-cuts, piece-is, sign-is, sign-splits, sign-stops, some-same, spaces, stops-spaces, word-passes}
use Rattle.tre_num.specs.Defined.{Defined}
use Rattle.tre_num.specs.Definitions.{Spells}
use Rattle.tre_num.specs.Whole.{is_whole_byte, number_up_to, whole_of}

-- ---- the bytes of numbers

digits-pass : (digits : List ℕ) → list_all is_ascii_digit digits ≡ true
    → list_all is_whole_byte digits ≡ true
digits-pass [] all = refl
digits-pass (byte ∷ bytes) all =
    let here : is_whole_byte byte ≡ true = grind (arith, nat_tests) in
    rw (here, digits-pass bytes (second (is_ascii_digit byte) (list_all is_ascii_digit bytes) all))
    refl

-- where a choice is some, its test holds
chosen : {A B : Type 0} (f : A → B) (a b : Bool) (x : A) (y : B)
    → option_map f (if a && b then Some x else None) ≡ Some y → a ≡ true
chosen f true b x y e = refl
chosen f false b x y e = cc

numeral-passes : (digits : List ℕ) → is_numeral digits ≡ true
    → list_all is_whole_byte digits ≡ true
numeral-passes digits is =
    digits-pass digits
    (second (nat_lt 0 (length digits)) (list_all is_ascii_digit digits) is)

whole-passes : (number : List ℕ) (value : ℤ) → whole_of number ≡ Some value
    → (list_all is_whole_byte number ≡ true) × (0 < length number)
whole-passes [] value is = cc
whole-passes (byte ∷ bytes) value is = (by (byte == 45) refl is, omega arith) where
  by : (minus : Bool) → (byte == 45) ≡ minus
      → (if minus then option_map (λ number. neg_ℤ (pos number)) (number_up_to (2 ^ 63) bytes)
      else option_map pos (number_up_to (2 ^ 63 - 1) (byte ∷ bytes))) ≡ Some value
      → list_all is_whole_byte (byte ∷ bytes) ≡ true
  by true e is =
      let here : is_whole_byte byte ≡ true = grind (arith, nat_tests) in
      rw (
        here,
        numeral-passes bytes (chosen (λ number. neg_ℤ (pos number)) (is_numeral bytes)
            (nat_le (digits_value 10 bytes) (2 ^ 63)) (digits_value 10 bytes) value is),
      )
      refl
  by false e is =
      numeral-passes (byte ∷ bytes) (chosen pos (is_numeral (byte ∷ bytes))
      (nat_le (digits_value 10 (byte ∷ bytes)) (2 ^ 63 - 1)) (digits_value 10 (byte ∷ bytes))
      value is)

-- ---- a definition

-- The parts of a definition, as they are cut.
pub record AreParts (text : List ℕ) (defined : Defined) : Type 0 where
  pub behind : List ℕ
  pub tail : List ℕ
  pub name : piece continues_name text ≡ defined.name
  pub equals : behind_piece continues_name text ≡ 61 ∷ behind
  pub column : piece continues_name behind ≡ defined.column
  pub sign : sign_in (behind_piece continues_name behind)
      ≡ Some (record { comparison = defined.comparison; rest = tail })
  pub value : whole_of (piece is_whole_byte tail) ≡ Some defined.value
  pub end : behind_piece is_whole_byte tail ≡ []

-- a number begins with no `=`
no_equals : (run rest : List ℕ) → list_all is_whole_byte run ≡ true → 0 < length run
    → Stops (λ byte. byte == 61) (run ++ rest)
no_equals [] rest all some = absurd (omega arith)
no_equals (byte ∷ run) rest all some =
    let here = first (is_whole_byte byte) (list_all is_whole_byte run) all in
    grind (arith, nat_tests)

pub parts-are : (text : List ℕ) (defined : Defined) → Spells text defined → AreParts text defined
parts-are text defined is =
    let number = is.number in
    let sign = sign_text defined.comparison in
    let word = word-passes defined.name is.name.0 in
    let column = word-passes defined.column is.column in
    let whole = whole-passes number defined.value is.value in
    let at_name = is.spaced in
    let at_equals = at_name.3 in
    let at_column = at_equals.3 in
    let at_sign = at_column.3 in
    let at_number = at_sign.3 in
    let at_end = at_number.3 in
    let behind = at_equals.1 in
    let tail = at_sign.1 in
    let one = piece-is continues_name at_name.0 at_equals.0 defined.name (61 ∷ behind) refl word.0
    word.1 refl refl in
    let stops = sign-stops defined.comparison tail in
    let two = piece-is continues_name at_column.0 at_sign.0 defined.column (sign ++ tail) refl
    column.0 column.1 stops.0 stops.1 in
    let three = piece-is is_whole_byte at_number.0 at_end.0 number [] refl whole.0 whole.1 tt tt in
    let text_is = at_name.2 ∙ ap (λ rest. spaces at_name.0 ++ (defined.name ++ rest)) at_equals.2 in
    let behind_is = at_column.2
    ∙ ap (λ rest. spaces at_column.0 ++ (defined.column ++ rest)) at_sign.2 in
    let tail_is = at_number.2
    ∙ ap (λ end. spaces at_number.0 ++ (number ++ end))
    (at_end.1 ∙ sym (append-nil (spaces at_end.0))) in
    record {
      behind = behind;
      tail = tail;
      name = ap (piece continues_name) text_is ∙ one.run_is;
      equals = ap (behind_piece continues_name) text_is ∙ one.rest_is;
      column = ap (piece continues_name) behind_is ∙ two.run_is;
      sign = ap sign_in (ap (behind_piece continues_name) behind_is ∙ two.rest_is)
          ∙ sign-is defined.comparison tail
          (subst (λ rest. Stops (λ byte. byte == 61) rest) (sym at_number.2)
          (stops-spaces (λ byte. byte == 61) at_number.0 (number ++ at_number.1) refl
          (no_equals number at_number.1 whole.0 whole.1)));
      value = ap whole_of (ap (piece is_whole_byte) tail_is ∙ three.run_is) ∙ is.value;
      end = ap (behind_piece is_whole_byte) tail_is ∙ three.rest_is;
    }

-- Of one text the parts are cut in one way.
pub same-behind : (text behind : List ℕ) (defined : Defined) (parts : AreParts text defined)
    → behind_equals (behind_piece continues_name text) ≡ Some behind → parts.behind ≡ behind
same-behind text behind defined parts found =
    some-same parts.behind behind (sym (ap behind_equals parts.equals) ∙ found)

pub same-tail : (text behind tail : List ℕ) (comparison : Comparison) (defined : Defined)
    (parts : AreParts text defined) → parts.behind ≡ behind
    → sign_in (behind_piece continues_name behind)
    ≡ Some (record { comparison = comparison; rest = tail })
    → (defined.comparison ≡ comparison) × (parts.tail ≡ tail)
same-tail text behind tail comparison defined parts same found =
    let told = some-same (record { comparison = defined.comparison; rest = parts.tail })
    (record { comparison = comparison; rest = tail })
    (sym parts.sign
    ∙ ap (λ bytes. sign_in (behind_piece continues_name bytes)) same
    ∙ found) in
    (ap (λ signed. signed.comparison) told, ap (λ signed. signed.rest) told)

pub parts-spell : (text : List ℕ) (defined : Defined) → AreParts text defined
    → IsName defined.name → IsWord defined.column → Spells text defined
parts-spell text defined parts name column =
    let one = piece-cuts continues_name text in
    let two = piece-cuts continues_name parts.behind in
    let three = piece-cuts is_whole_byte parts.tail in
    let sign = sign-splits (behind_piece continues_name parts.behind)
    (record { comparison = defined.comparison; rest = parts.tail }) parts.sign in
    let number = piece is_whole_byte parts.tail in
    let sign_word = sign_text defined.comparison in
    let at_number : IsSpaced (number ∷ []) parts.tail = (
      three.gap,
      spaces three.after ++ behind_piece is_whole_byte parts.tail,
      three.is,
      (
        three.after,
        ap (λ end. spaces three.after ++ end) parts.end ∙ append-nil (spaces three.after),
      ),
    ) in
    let at_sign : IsSpaced (sign_word ∷ number ∷ [])
    (spaces two.after ++ behind_piece continues_name parts.behind) =
    (two.after, parts.tail, ap (λ rest. spaces two.after ++ rest) sign, at_number) in
    let at_column : IsSpaced (defined.column ∷ sign_word ∷ number ∷ []) parts.behind = (
      two.gap,
      spaces two.after ++ behind_piece continues_name parts.behind,
      two.is
          ∙ ap (λ word. spaces two.gap ++ (word ++ (spaces two.after
          ++ behind_piece continues_name parts.behind))) parts.column,
      at_sign,
    ) in
    let at_equals : IsSpaced (codes "=" ∷ defined.column ∷ sign_word ∷ number ∷ [])
    (spaces one.after ++ behind_piece continues_name text) =
    (one.after, parts.behind, ap (λ rest. spaces one.after ++ rest) parts.equals, at_column) in
    record {
      name = name;
      column = column;
      number = number;
      value = parts.value;
      spaced = (
        one.gap,
        spaces one.after ++ behind_piece continues_name text,
        one.is
            ∙ ap (λ word. spaces one.gap ++ (word ++ (spaces one.after
            ++ behind_piece continues_name text))) parts.name,
        at_equals,
      );
    }
