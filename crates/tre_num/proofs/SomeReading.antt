-- Every part is a definition, or none.
use Rattle.std.proofs.Common.{◌≡◌, ◌⊎◌, ℕ, ℤ, Option, Some, None, List, [], ◌∷◌, refl, sym, ap, subst, ◌∙◌, inl, inr}
use Rattle.std.proofs.lemmas.Option.{none-some}
use Rattle.tre_state.specs.Name.{continues_name, IsWord, IsName}
use Rattle.tre_define.specs.Pieces.{Signed, behind_equals, behind_piece, piece, sign_in}
use Rattle.tre_define.proofs.Cutting.{equals-is}
use Rattle.tre_define.proofs.Deciding.{Decided, name_or, word_or}
use Rattle.tre_define.specs.Texts.{parts_of}
use Rattle.tre_define.specs.declared.let_fault.LetFault.{LetFault}
use Rattle.tre_define.proofs.SomeReading as texts
use Rattle.tre_define.proofs.SomeReading.{IsOrNot}
use Rattle.tre_num.specs.Defined.{Defined, name_of_let}
use Rattle.tre_num.specs.Definitions.{Define, LetsAreRefused, Spells}
use Rattle.tre_num.specs.Whole.{is_whole_byte, whole_of}
use Rattle.tre_num.proofs.Pieces.{parts-are, parts-spell, same-behind, same-tail}

module _ (part behind : List ℕ)
    (found : behind_equals (behind_piece continues_name part) ≡ Some behind) where
  module _ (signed : Signed) (sign : sign_in (behind_piece continues_name behind) ≡ Some signed)
    where
      at_names : (value : ℤ) → whole_of (piece is_whole_byte signed.rest) ≡ Some value
          → behind_piece is_whole_byte signed.rest ≡ []
          → Decided (IsName (piece continues_name part))
          → Decided (IsWord (piece continues_name behind)) → IsOrNot Spells part
      at_names value whole end (inl name) (inl column) =
          let defined : Defined = record {
            name = piece continues_name part;
            column = piece continues_name behind;
            comparison = signed.comparison;
            value = value;
          } in
          inl (
            defined,
            parts-spell part defined (record {
              behind = behind;
              tail = signed.rest;
              name = refl;
              equals = equals-is (behind_piece continues_name part) behind found;
              column = refl;
              sign = sign;
              value = whole;
              end = end;
            }) name column,
          )
      at_names value whole end (inl name) (inr never) = inr (λ defined is.
          let parts = parts-are part defined is in
          let same = same-behind part behind defined parts found in
          never (subst IsWord (sym (ap (piece continues_name) (sym same) ∙ parts.column)) is.column))
      at_names value whole end (inr never) column = inr (λ defined is.
          let parts = parts-are part defined is in
          never (subst IsName (sym parts.name) is.name))

      at_end : (value : ℤ) → whole_of (piece is_whole_byte signed.rest) ≡ Some value
          → (end : List ℕ) → behind_piece is_whole_byte signed.rest ≡ end → IsOrNot Spells part
      at_end value whole [] e =
          at_names value whole e (name_or (piece continues_name part))
          (word_or (piece continues_name behind))
      at_end value whole (byte ∷ bytes) e = inr (λ defined is.
          let parts = parts-are part defined is in
          let same = same-behind part behind defined parts found in
          let ends = same-tail part behind signed.rest signed.comparison defined parts same sign in
          let none : byte ∷ bytes ≡ [] =
          sym e ∙ ap (behind_piece is_whole_byte) (sym ends.1) ∙ parts.end in
          absurd (cc))

      at_value : (value : Option ℤ) → whole_of (piece is_whole_byte signed.rest) ≡ value
          → IsOrNot Spells part
      at_value None e = inr (λ defined is.
          let parts = parts-are part defined is in
          let same = same-behind part behind defined parts found in
          let ends = same-tail part behind signed.rest signed.comparison defined parts same sign in
          none-some defined.value
          (sym e ∙ ap (λ bytes. whole_of (piece is_whole_byte bytes)) (sym ends.1) ∙ parts.value))
      at_value (Some value) e = at_end value e (behind_piece is_whole_byte signed.rest) refl

  at_sign : (signed : Option Signed) → sign_in (behind_piece continues_name behind) ≡ signed
      → IsOrNot Spells part
  at_sign None e = inr (λ defined is.
      let parts = parts-are part defined is in
      let same = same-behind part behind defined parts found in
      none-some (record { comparison = defined.comparison; rest = parts.tail })
      (sym e ∙ ap (λ bytes. sign_in (behind_piece continues_name bytes)) (sym same) ∙ parts.sign))
  at_sign (Some signed) e = at_value signed e (whole_of (piece is_whole_byte signed.rest)) refl

at_equals : (part : List ℕ) (behind : Option (List ℕ))
    → behind_equals (behind_piece continues_name part) ≡ behind → IsOrNot Spells part
at_equals part None e = inr (λ defined is.
    let parts = parts-are part defined is in
    none-some parts.behind (sym e ∙ ap behind_equals parts.equals))
at_equals part (Some behind) e =
    at_sign part behind e (sign_in (behind_piece continues_name behind)) refl

pub is_or_not : (part : List ℕ) → IsOrNot Spells part
is_or_not part = at_equals part (behind_equals (behind_piece continues_name part)) refl

pub some_reading : (text : List ℕ)
    → ((definitions : List Defined) × Define (parts_of text) definitions)
    ⊎ ((fault : LetFault) × LetsAreRefused (parts_of text) fault)
some_reading = texts.some_reading Spells name_of_let is_or_not
