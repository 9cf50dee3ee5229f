use Rattle.tre_residual.specs.Residual.{preceded, residual_tree, Builds, IsComposition}
use Rattle.tre_derive.proofs.ToldAndLeft.{both_parts}
use Rattle.tre_derive.proofs.StepsOfForms.{step_preceded}
use Rattle.tre_derive.proofs.forms.precede.Goals as goal

pub returns : goal.returns
returns c =
    let zones = c.args.zones.now in
    let inner = c.args.inner in
    let rest = residual_tree inner.rest in
    both_parts c.of.result c.composed-told.result c.preceded_by-rest.result
    (λ told. IsComposition told zones inner.told)
    (λ whole. Builds (residual_tree whole) (preceded zones rest)) _
    (λ s composed built residual piece steps.
    step_preceded piece residual inner.told rest steps zones s.told (residual_tree s.rest) composed
    built)
    c.of.ensures.told c.of.ensures.rest c.composed-told.ensures c.preceded_by-rest.ensures
