use Rattle.std.proofs.Common.{◌≡◌, false, ◌∷◌, [], length, subst, sym, ap, ◌∙◌, rules}
use Rattle.std.specs.Prelude.{◌==◌}
use Rattle.std.specs.List.{slice_split}
use Rattle.std.specs.Option.{option_map}
use Rattle.std.proofs.lemmas.Result.{err_from_is_err_and}
use Rattle.tre_define.specs.Pieces.{parts_behind, past_spaces}
use Rattle.tre_define.specs.Signals.{AreRefused, DefineSignals, Spells, name_of_signal}
use Rattle.tre_define.specs.Texts.{is_semicolon}
use Rattle.tre_define.proofs.Defining.{HasDefined, all-defined, begins, no_parts, one-more, refused, some_parts}
use Rattle.tre_define.proofs.signals.read_signals.Goals as goal

pub returns-then-is_empty-clause-definitions : goal.returns-then-is_empty-clause-definitions
returns-then-is_empty-clause-definitions c =
    search (rules, past_spaces, no_parts, all-defined, begins, c.args.text.now)

pub returns-in_err-add_signal-clause-refused : goal.returns-in_err-add_signal-clause-refused
returns-in_err-add_signal-clause-refused c =
    let text = c.args.text.now in
    let bytes = c.loop-definitions.rest.now in
    let definitions = c.loop-definitions.definitions.items in
    let part = c.first_part.result.0.now in
    let others = parts_behind (option_map (λ rest. rest.now) c.first_part.result.1) in
    let all = slice_split is_semicolon text in
    let has = subst (λ parts. HasDefined Spells name_of_signal all definitions parts) c.first_part.ensures.parts
    c.loop-definitions.invariant.has in
    let past = c.skip_spaces.ensures ∙ ap past_spaces c.as_bytes-rest.ensures.value in
    let some : (length (past_spaces text) == 0) ≡ false =
    ap (λ bytes. length bytes == 0) (sym past) ∙ sym c.is_empty.ensures ∙ c.if-is_empty.false in
    let p = err_from_is_err_and c.from_residual.result c.from_residual.ensures.1 in
    rw (p.1, p.2) (λ never.
    subst (λ parts. AreRefused parts c.in_err-add_signal.field-0.0) (sym (some_parts text some))
    (refused all others definitions part c.in_err-add_signal.field-0.0 has
    (c.in_err-add_signal.ensures.fault never)))

pub loop-definitions-preserved : goal.loop-definitions-preserved
loop-definitions-preserved c =
    search (rules, is_semicolon, one-more, c.args.text.now, c.loop-definitions.rest.now)

pub returns-in-None-clause-definitions : goal.returns-in-None-clause-definitions
returns-in-None-clause-definitions c =
    let text = c.args.text.now in
    let bytes = c.loop-definitions.rest.now in
    let definitions = c.loop-definitions.definitions.items in
    let part = c.first_part.result.0.now in
    let all = slice_split is_semicolon text in
    let step : slice_split is_semicolon bytes ≡ part ∷ [] =
    c.first_part.ensures.parts
    ∙ ap (λ rest. part ∷ parts_behind (option_map (λ found. found.now) rest)) c.in-None.is in
    let has = subst (λ parts. HasDefined Spells name_of_signal all definitions parts) step c.loop-definitions.invariant.has
    in
    let added = c.in_ok-add_signal.ensures.added in
    let past = c.skip_spaces.ensures ∙ ap past_spaces c.as_bytes-rest.ensures.value in
    let some : (length (past_spaces text) == 0) ≡ false =
    ap (λ bytes. length bytes == 0) (sym past) ∙ sym c.is_empty.ensures ∙ c.if-is_empty.false in
    subst (λ parts. DefineSignals parts c.add_signal.new.definitions.items) (sym (some_parts text some))
    (all-defined all c.add_signal.new.definitions.items
    (subst (λ items. HasDefined Spells name_of_signal all items []) (sym added.1)
    (one-more all [] definitions part added.0 has added.2 added.3)))

pub add_signal-requires : goal.add_signal-requires
add_signal-requires c = c.first_part.ensures.text c.loop-definitions.invariant.text
