use Rattle.std.proofs.Common.{◌≡◌, true, false, ◌∷◌, [], length, subst, sym, ap, ◌∙◌}
use Rattle.std.specs.Prelude.{◌==◌}
use Rattle.std.specs.List.{slice_split}
use Rattle.std.specs.Option.{option_map}
use Rattle.std.proofs.lemmas.Result.{err_from_is_err_and}
use Rattle.tre_define.specs.Pieces.{parts_behind, past_spaces}
use Rattle.tre_define.specs.Texts.{is_semicolon}
use Rattle.tre_num.specs.Defined.{name_of_let}
use Rattle.tre_num.specs.Definitions.{Define, LetsAreRefused, Spells}
use Rattle.tre_define.proofs.Defining.{HasDefined, all-defined, begins, no_parts, one-more, refused, some_parts}
use Rattle.tre_num.proofs.definitions.read_definitions.Goals as goal

pub returns-then-is_empty-clause-definitions : goal.returns-then-is_empty-clause-definitions
returns-then-is_empty-clause-definitions c =
    let text = c.args.text.now in
    let past = c.skip_spaces.ensures ∙ ap past_spaces c.as_bytes-rest.ensures.value in
    let none : (length (past_spaces text) == 0) ≡ true =
    ap (λ bytes. length bytes == 0) (sym past) ∙ sym c.is_empty.ensures ∙ c.if-is_empty.true in
    subst (λ parts. Define parts c.new-definitions.result.items) (sym (no_parts text none))
    (subst (λ items. Define [] items) (sym c.new-definitions.ensures.items)
    (all-defined [] [] (begins [])))

pub returns-in_err-add_definition-clause-refused : goal.returns-in_err-add_definition-clause-refused
returns-in_err-add_definition-clause-refused c =
    let text = c.args.text.now in
    let bytes = c.loop-definitions.rest.now in
    let definitions = c.loop-definitions.definitions.items in
    let part = c.first_part.result.0.now in
    let others = parts_behind (option_map (λ rest. rest.now) c.first_part.result.1) in
    let all = slice_split is_semicolon text in
    let has = subst (λ parts. HasDefined Spells name_of_let all definitions parts) c.first_part.ensures.parts
    c.loop-definitions.invariant in
    let past = c.skip_spaces.ensures ∙ ap past_spaces c.as_bytes-rest.ensures.value in
    let some : (length (past_spaces text) == 0) ≡ false =
    ap (λ bytes. length bytes == 0) (sym past) ∙ sym c.is_empty.ensures ∙ c.if-is_empty.false in
    let p = err_from_is_err_and c.from_residual.result c.from_residual.ensures.1 in
    rw (p.1, p.2) (λ never.
    subst (λ parts. LetsAreRefused parts c.in_err-add_definition.field-0.0) (sym (some_parts text some))
    (refused all others definitions part c.in_err-add_definition.field-0.0 has
    (c.in_err-add_definition.ensures.fault never)))

pub loop-definitions-preserved : goal.loop-definitions-preserved
loop-definitions-preserved c =
    let text = c.args.text.now in
    let bytes = c.loop-definitions.rest.now in
    let behind = c.in-Some.behind.now in
    let definitions = c.loop-definitions.definitions.items in
    let part = c.first_part.result.0.now in
    let all = slice_split is_semicolon text in
    let others = slice_split is_semicolon behind in
    let step : slice_split is_semicolon bytes ≡ part ∷ others =
    c.first_part.ensures.parts
    ∙ ap (λ rest. part ∷ parts_behind (option_map (λ found. found.now) rest)) c.in-Some.is in
    let has = subst (λ parts. HasDefined Spells name_of_let all definitions parts) step c.loop-definitions.invariant
    in
    let added = c.in_ok-add_definition.ensures.added in
    subst (λ items. HasDefined Spells name_of_let all items others) (sym added.1)
    (one-more all others definitions part added.0 has added.2 added.3)

pub returns-in-None-clause-definitions : goal.returns-in-None-clause-definitions
returns-in-None-clause-definitions c =
    let text = c.args.text.now in
    let bytes = c.loop-definitions.rest.now in
    let definitions = c.loop-definitions.definitions.items in
    let part = c.first_part.result.0.now in
    let all = slice_split is_semicolon text in
    let step : slice_split is_semicolon bytes ≡ part ∷ [] =
    c.first_part.ensures.parts
    ∙ ap (λ rest. part ∷ parts_behind (option_map (λ found. found.now) rest)) c.in-None.is in
    let has = subst (λ parts. HasDefined Spells name_of_let all definitions parts) step c.loop-definitions.invariant
    in
    let added = c.in_ok-add_definition.ensures.added in
    let past = c.skip_spaces.ensures ∙ ap past_spaces c.as_bytes-rest.ensures.value in
    let some : (length (past_spaces text) == 0) ≡ false =
    ap (λ bytes. length bytes == 0) (sym past) ∙ sym c.is_empty.ensures ∙ c.if-is_empty.false in
    subst (λ parts. Define parts c.add_definition.new.definitions.items) (sym (some_parts text some))
    (all-defined all c.add_definition.new.definitions.items
    (subst (λ items. HasDefined Spells name_of_let all items []) (sym added.1)
    (one-more all [] definitions part added.0 has added.2 added.3)))
