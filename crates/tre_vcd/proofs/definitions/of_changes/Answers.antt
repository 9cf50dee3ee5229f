use Rattle.std.proofs.Common.{◌∷◌, [], ◌++◌, take, sym, ap, ◌∙◌, rules}
use Rattle.std.proofs.lemmas.List.{take_all, take_more}
use Rattle.std.proofs.lemmas.Result.{err_from_is_err_and}
use Rattle.std.proofs.lemmas.List.Elements.{filter-append}
use Rattle.tre_define.specs.Signals.{SignalDefined}
use Rattle.tre_vcd.specs.VcdReading.{is_changes, of_changes}
use Rattle.tre_vcd.proofs.definitions.of_changes.Goals as goal

pub loop-definition-init : goal.loop-definition-init
loop-definition-init c = c.new-changing.ensures.items

pub returns-in_err-add_changing : goal.returns-in_err-add_changing
returns-in_err-add_changing c =
    let p = err_from_is_err_and c.from_residual.result c.from_residual.ensures.1 in rw p.1 tt

pub loop-definition-preserved : goal.loop-definition-preserved
loop-definition-preserved c =
    let all = c.args.definitions.now in
    let index = c.loop-definition.definition-index in
    let one = c.definition-item.result in
    c.in_ok-add_changing.ensures
    ∙ ap (λ changing. changing ++ of_changes (one ∷ [])) c.loop-definition.invariant
    ∙ sym (filter-append (λ (own : SignalDefined). is_changes own.reads) (take index all) (one ∷ []))
    ∙ ap (λ last. of_changes (take index all ++ last ∷ [])) c.definition-item.is
    ∙ ap of_changes (sym (take_more all index one c.loop-definition-test.true))

pub returns : goal.returns
returns c = search (rules, of_changes, take_all, c.loop-definition.definition-index)
