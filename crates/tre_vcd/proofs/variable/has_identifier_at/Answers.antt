use Rattle.std.proofs.Common.{get_or, ap, ◌∙◌, arith}
use Rattle.tre_vcd.specs.Kept.{identifier_kept, has_identifier}
use Rattle.tre_vcd.proofs.Valuing.{has-at, has-none}
use Rattle.tre_vcd.proofs.variable.has_identifier_at.Goals as goal

pub returns-then-place-variables : goal.returns-then-place-variables
returns-then-place-variables c =
    has-none c.args.variables.now c.args.number c.args.identifier.now
    (omega (arith, c.if-place-variables.true, c.from-place.ensures))

pub returns : goal.returns
returns c =
    let variables = c.args.variables.now in
    let identifier = c.args.identifier.now in
    let variable = c.index-variables-place.result in
    has-at variables c.args.number variable identifier c.has_identifier.result
    (omega (arith, c.if-place-variables.false, c.from-place.ensures))
    (c.has_identifier.ensures
    ∙ ap (λ s. has_identifier (identifier_kept s) identifier)
    (c.index-variables-place.is ∙ ap (λ k. get_or variables k variable) c.from-place.ensures))
