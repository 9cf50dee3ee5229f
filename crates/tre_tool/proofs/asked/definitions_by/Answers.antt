use Rattle.std.proofs.Common.{◌∙◌, ap, sym}
use Rattle.std.proofs.lemmas.Result.{err_from_is_err_and}
use Rattle.std.specs.Prelude.{option_map}
use Rattle.tre_tool.proofs.Definings.{AreDefinitions-none, AreDefinitions-some, RefusesDefinitions-text}
use Rattle.tre_tool.proofs.asked.definitions_by.Goals as goal

pub returns-in-None-clause-defines : goal.returns-in-None-clause-defines
returns-in-None-clause-defines c = AreDefinitions-none c.args.job.now _ _
    (sym c.text_read.ensures ∙ ap (option_map (λ text. text.now)) c.in-None.is)
    c.no_definitions.ensures.columns c.no_definitions.ensures.signals

pub returns-in_ok-definitions-in-Some-clause-defines :
    goal.returns-in_ok-definitions-in-Some-clause-defines
returns-in_ok-definitions-in-Some-clause-defines c = AreDefinitions-some c.args.job.now c.in-Some.text.now _ _
    (sym c.text_read.ensures ∙ ap (option_map (λ text. text.now)) c.in-Some.is)
    c.in_ok-definitions-in-Some.ensures.defines

pub returns-in_err-definitions-in-Some-clause-refuses :
    goal.returns-in_err-definitions-in-Some-clause-refuses
returns-in_err-definitions-in-Some-clause-refuses c =
    let p = err_from_is_err_and c.from_residual.result c.from_residual.ensures.1 in
    rw (p.1, p.2) (RefusesDefinitions-text c.args.job.now c.in-Some.text.now
    c.in_err-definitions-in-Some.field-0.0
    (sym c.text_read.ensures ∙ ap (option_map (λ text. text.now)) c.in-Some.is)
    c.in_err-definitions-in-Some.ensures.refuses)
