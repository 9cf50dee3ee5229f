use Rattle.std.proofs.Common.{rules, ◌≡◌, w64, Some, [], length, sym, ap, ◌∙◌, subst}
use Rattle.std.specs.Prelude.{◌==◌}
use Rattle.std.proofs.lemmas.Bool.{false≢true}
use Rattle.std.proofs.lemmas.Int.{to_z-of_z}
use Rattle.std.proofs.lemmas.Option.{none-some}
use mir.Val.{of_z, to_z}
use Rattle.tre_state.specs.Name.{continues_name, IsName, IsWord}
use Rattle.tre_num.specs.Definitions.{Spells}
use Rattle.tre_define.specs.Pieces.{behind_equals, behind_piece, piece, sign_in}
use Rattle.tre_num.specs.Whole.{is_whole_byte, whole_of}
use Rattle.tre_define.proofs.Cutting.{empty, equals-is}
use Rattle.tre_num.proofs.Pieces.{parts-are, parts-spell, same-behind, same-tail}
use Rattle.tre_num.proofs.parts.parts_in.Goals as goal

pub returns-in_err-name-clause-none : goal.returns-in_err-name-clause-none
returns-in_err-name-clause-none c =
    rw c.from_residual.ensures (λ defined is.
    let parts = parts-are c.args.text.now defined is in
    c.in_err-name.ensures.none
    (subst IsName (sym (c.next_word.ensures.run ∙ parts.name)) is.name))

pub returns-in_err-rest-clause-none : goal.returns-in_err-rest-clause-none
returns-in_err-rest-clause-none c =
    rw c.from_residual-in_err-rest.ensures (λ defined is.
    let parts = parts-are c.args.text.now defined is in
    none-some parts.behind
    (c.in_err-rest.ensures ∙ ap behind_equals (c.next_word.ensures.rest ∙ parts.equals)))

pub returns-in_err-column-clause-none : goal.returns-in_err-column-clause-none
returns-in_err-column-clause-none c =
    rw c.from_residual-in_err-column.ensures (λ defined is.
    let text = c.args.text.now in
    let behind = c.in_ok-rest.rest.now in
    let parts = parts-are text defined is in
    let found : behind_equals (behind_piece continues_name text) ≡ Some behind =
    ap behind_equals (sym c.next_word.ensures.rest) ∙ sym c.in_ok-rest.ensures in
    let same = same-behind text behind defined parts found in
    c.in_err-column.ensures.none
    (subst IsWord (sym (c.next_word-2.ensures.run
    ∙ ap (piece continues_name) (sym same) ∙ parts.column)) is.column))

pub returns-in_err-comparison-clause-none : goal.returns-in_err-comparison-clause-none
returns-in_err-comparison-clause-none c =
    rw c.from_residual-in_err-comparison.ensures (λ defined is.
    let text = c.args.text.now in
    let behind = c.in_ok-rest.rest.now in
    let parts = parts-are text defined is in
    let found : behind_equals (behind_piece continues_name text) ≡ Some behind =
    ap behind_equals (sym c.next_word.ensures.rest) ∙ sym c.in_ok-rest.ensures in
    let same = same-behind text behind defined parts found in
    none-some (record { comparison = defined.comparison; rest = parts.tail })
    (c.in_err-comparison.ensures
    ∙ ap sign_in (c.next_word-2.ensures.rest ∙ ap (behind_piece continues_name) (sym same))
    ∙ parts.sign))

pub returns-in_err-value-clause-none : goal.returns-in_err-value-clause-none
returns-in_err-value-clause-none c =
    rw c.from_residual-in_err-value.ensures (λ defined is.
    let text = c.args.text.now in
    let behind = c.in_ok-rest.rest.now in
    let tail = c.in_ok-comparison.rest.now in
    let parts = parts-are text defined is in
    let found : behind_equals (behind_piece continues_name text) ≡ Some behind =
    ap behind_equals (sym c.next_word.ensures.rest) ∙ sym c.in_ok-rest.ensures in
    let same = same-behind text behind defined parts found in
    let signed = ap sign_in (sym c.next_word-2.ensures.rest) ∙ sym c.in_ok-comparison.ensures in
    let ends = same-tail text behind tail c.in_ok-comparison.comparison defined parts same signed in
    none-some defined.value
    (c.in_err-value.ensures
    ∙ ap whole_of (c.next_number.ensures.run ∙ ap (piece is_whole_byte) (sym ends.1))
    ∙ parts.value))

pub returns-then-not-is_empty-clause-none : goal.returns-then-not-is_empty-clause-none
returns-then-not-is_empty-clause-none c defined is =
    let text = c.args.text.now in
    let behind = c.in_ok-rest.rest.now in
    let tail = c.in_ok-comparison.rest.now in
    let parts = parts-are text defined is in
    let found : behind_equals (behind_piece continues_name text) ≡ Some behind =
    ap behind_equals (sym c.next_word.ensures.rest) ∙ sym c.in_ok-rest.ensures in
    let same = same-behind text behind defined parts found in
    let signed = ap sign_in (sym c.next_word-2.ensures.rest) ∙ sym c.in_ok-comparison.ensures in
    let ends = same-tail text behind tail c.in_ok-comparison.comparison defined parts same signed in
    let none : c.next_number.result.1.now ≡ [] =
    c.next_number.ensures.rest ∙ ap (behind_piece is_whole_byte) (sym ends.1) ∙ parts.end in
    false≢true (sym c.if-not-is_empty.true ∙ c.is_empty.ensures
    ∙ ap (λ bytes. length bytes == 0) none)

pub returns-clause-some : goal.returns-clause-some
returns-clause-some c =
    let text = c.args.text.now in
    let behind = c.in_ok-rest.rest.now in
    let named = c.in_ok-name.ensures.some in
    let column = c.in_ok-column.ensures.some in
    let found : behind_equals (behind_piece continues_name text) ≡ Some behind =
    ap behind_equals (sym c.next_word.ensures.rest) ∙ sym c.in_ok-rest.ensures in
    let none : c.next_number.result.1.now ≡ [] =
    empty c.next_number.result.1.now (sym c.is_empty.ensures ∙ c.if-not-is_empty.false) in
    let value = c.in_ok-value.value in
    let kept : to_z w64 (of_z w64 value) ≡ value = to_z-of_z w64 value (search rules) in
    subst (λ number. Spells text (record {
      name = c.in_ok-name.name.now;
      column = c.in_ok-column.column.now;
      comparison = c.in_ok-comparison.comparison;
      value = number;
    })) (sym kept)
    (parts-spell text _
    (record {
      behind = behind;
      tail = c.in_ok-comparison.rest.now;
      name = sym c.next_word.ensures.run ∙ sym named.0;
      equals = equals-is (behind_piece continues_name text) behind found;
      column = sym c.next_word-2.ensures.run ∙ sym column.0;
      sign = ap sign_in (sym c.next_word-2.ensures.rest) ∙ sym c.in_ok-comparison.ensures;
      value = ap whole_of (sym c.next_number.ensures.run) ∙ sym c.in_ok-value.ensures;
      end = sym c.next_number.ensures.rest ∙ none;
    })
    (subst IsName (sym named.0) named.1) (subst IsWord (sym column.0) column.1))
