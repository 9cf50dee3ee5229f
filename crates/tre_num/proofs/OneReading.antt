-- A text says one thing.
use Rattle.std.proofs.Common.{◌≡◌, ℕ, List, ◌∷◌, sym, ap, ◌∙◌}
use Rattle.std.specs.List.{AllZip}
use Rattle.tre_state.specs.Name.{continues_name}
use Rattle.tre_define.specs.Pieces.{behind_piece, piece, sign_in}
use Rattle.tre_define.specs.declared.let_fault.LetFault.{LetFault}
use Rattle.tre_define.proofs.Cutting.{some-same}
use Rattle.tre_define.proofs.OneReading as texts
use Rattle.tre_num.specs.Defined.{Defined, name_of_let}
use Rattle.tre_num.specs.Definitions.{Define, LetsAreRefused, Spells}
use Rattle.tre_num.specs.Whole.{is_whole_byte, whole_of}
use Rattle.tre_num.proofs.Pieces.{AreParts, parts-are}

same-fields : (one other : Defined) → one.name ≡ other.name → one.column ≡ other.column
    → one.comparison ≡ other.comparison → one.value ≡ other.value → one ≡ other
same-fields one other name column comparison value =
    ap (λ x. record { name = x; column = one.column; comparison = one.comparison; value = one.value })
    name
    ∙ ap (λ x. record {
      name = other.name;
      column = x;
      comparison = one.comparison;
      value = one.value;
    }) column
    ∙ ap (λ x. record {
      name = other.name;
      column = other.column;
      comparison = x;
      value = one.value;
    }) comparison
    ∙ ap (λ x. record {
      name = other.name;
      column = other.column;
      comparison = other.comparison;
      value = x;
    }) value

same-parts : (text : List ℕ) (one other : Defined) → AreParts text one → AreParts text other
    → one ≡ other
same-parts text one other is also =
    let told : 61 ∷ is.behind ≡ 61 ∷ also.behind = sym is.equals ∙ also.equals in
    let behind : is.behind ≡ also.behind = cc in
    let signed = some-same (record { comparison = one.comparison; rest = is.tail })
    (record { comparison = other.comparison; rest = also.tail })
    (sym is.sign ∙ ap (λ bytes. sign_in (behind_piece continues_name bytes)) behind ∙ also.sign) in
    let tail : is.tail ≡ also.tail = ap (λ s. s.rest) signed in
    let value = some-same one.value other.value
    (sym is.value ∙ ap (λ bytes. whole_of (piece is_whole_byte bytes)) tail ∙ also.value) in
    same-fields one other (sym is.name ∙ also.name)
    (sym is.column ∙ ap (piece continues_name) behind ∙ also.column)
    (ap (λ s. s.comparison) signed) value

pub same-definition : (text : List ℕ) (one other : Defined) → Spells text one → Spells text other
    → one ≡ other
same-definition text one other is also =
    same-parts text one other (parts-are text one is) (parts-are text other also)

-- ---- all parts

pub same-definitions : (parts : List (List ℕ)) (one other : List Defined) → AllZip Spells parts one
    → AllZip Spells parts other → one ≡ other
same-definitions = texts.same-definitions Spells name_of_let same-definition

pub refused-or : (parts : List (List ℕ)) (definitions : List Defined) (fault : LetFault)
    → Define parts definitions → LetsAreRefused parts fault → ⊥
refused-or = texts.refused-or Spells name_of_let same-definition

pub one-fault : (parts : List (List ℕ)) (one other : LetFault) → LetsAreRefused parts one
    → LetsAreRefused parts other → one ≡ other
one-fault = texts.one-fault Spells name_of_let same-definition
