use Rattle.std.proofs.Common.{[], ◌∷◌}
use Rattle.std.proofs.lemmas.Result.{err_from_is_err_and}
use Rattle.tre_tool.specs.Parts.{plain_sought, patterns_with}
use Rattle.tre_tool.proofs.Definings.{IsRefusalOf-definitions}
use Rattle.tre_tool.proofs.Texts.{IsRefusalOf-first, Spell-read}
use Rattle.tre_tool.proofs.asked.asked_by_texts.Goals as goal

pub returns-in_err-taken-clause-refuses : goal.returns-in_err-taken-clause-refuses
returns-in_err-taken-clause-refuses c =
    let p = err_from_is_err_and c.from_residual-in_err-taken.result
    c.from_residual-in_err-taken.ensures.1 in
    let pattern = c.in_ok-pattern.pattern in
    rw (p.1, p.2) (λ never. c.in_err-taken.ensures.refuses never (plain_sought pattern ∷ [])
    (Spell-read c.args.job.now pattern c.text.result.now c.text.ensures
    c.in_ok-pattern.ensures.outcome))

pub returns-in_err-definitions-clause-refuses : goal.returns-in_err-definitions-clause-refuses
returns-in_err-definitions-clause-refuses c =
    let p = err_from_is_err_and c.from_residual-in_err-definitions.result
    c.from_residual-in_err-definitions.ensures.1 in
    let pattern = c.in_ok-pattern.pattern in
    rw (p.1, p.2) (λ never. IsRefusalOf-definitions c.args.job.now _
    (patterns_with pattern c.in_ok-taken.taken) (c.in_err-definitions.ensures.refuses never)
    (c.in_ok-taken.ensures.spells pattern
    (Spell-read c.args.job.now pattern c.text.result.now c.text.ensures
    c.in_ok-pattern.ensures.outcome)))

pub returns-in_err-pattern-clause-refuses : goal.returns-in_err-pattern-clause-refuses
returns-in_err-pattern-clause-refuses c =
    let p = err_from_is_err_and c.from_residual.result c.from_residual.ensures.1 in
    rw (p.1, p.2) (λ never. IsRefusalOf-first c.args.job.now c.text.result.now
    c.in_err-pattern.field-0.0 c.text.ensures c.in_err-pattern.ensures.outcome never)

pub returns-clause-spells : goal.returns-clause-spells
returns-clause-spells c =
    let pattern = c.in_ok-pattern.pattern in
    rw c.in_ok-asked.ensures.sought (c.in_ok-taken.ensures.spells pattern
    (Spell-read c.args.job.now pattern c.text.result.now c.text.ensures
    c.in_ok-pattern.ensures.outcome))
