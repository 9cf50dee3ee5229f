use Rattle.tre_pairs.specs.Pairs.{Lasting}
use Rattle.tre_zone.specs.Interval.{LastsWithin}
use Rattle.tre_zone.specs.ZoneList.{SetHolds, HoldExactly}
use Rattle.tre_residual.specs.Residual.{lasting, residual_tree, Builds}
use Rattle.tre_derive.proofs.ToldAndLeft.{both_parts}
use Rattle.tre_derive.proofs.StepsOfForms.{step_lasting}
use Rattle.tre_derive.proofs.forms.restrict.Goals as goal

pub returns : goal.returns
returns c =
    let ends = c.args.interval.now in
    let inner = c.args.inner in
    let rest = residual_tree inner.rest in
    both_parts c.of.result c.within-told.result c.dur-rest.result
    (λ told. HoldExactly told (Lasting (LastsWithin ends) (SetHolds inner.told)))
    (λ whole. Builds (residual_tree whole) (lasting rest ends)) _
    (λ s held built residual piece steps.
    step_lasting piece residual inner.told rest steps ends s.told (residual_tree s.rest) held
    built)
    c.of.ensures.told c.of.ensures.rest c.within-told.ensures c.dur-rest.ensures
