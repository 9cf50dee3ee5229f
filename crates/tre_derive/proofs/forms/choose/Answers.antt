use Rattle.tre_pairs.specs.Pairs.{Either}
use Rattle.tre_zone.specs.ZoneList.{SetHolds, HoldExactly}
use Rattle.tre_residual.specs.Residual.{either, residual_tree, Builds}
use Rattle.tre_derive.proofs.ToldAndLeft.{both_parts}
use Rattle.tre_derive.proofs.StepsOfForms.{step_either}
use Rattle.tre_derive.proofs.forms.choose.Goals as goal

pub returns : goal.returns
returns c =
    let one = c.args.one in
    let other = c.args.other in
    let left_one = residual_tree one.rest in
    let left_other = residual_tree other.rest in
    both_parts c.of.result c.of_either-told.result c.or-rest.result
    (λ told. HoldExactly told (Either (SetHolds one.told) (SetHolds other.told)))
    (λ whole. Builds (residual_tree whole) (either left_one left_other)) _
    (λ s held built left right piece first second.
    step_either piece left right one.told other.told left_one left_other first second s.told
    (residual_tree s.rest) held built)
    c.of.ensures.told c.of.ensures.rest c.of_either-told.ensures c.or-rest.ensures
