use Rattle.tre_pairs.specs.Pairs.{Both}
use Rattle.tre_zone.specs.ZoneList.{SetHolds, HoldExactly}
use Rattle.tre_residual.specs.Residual.{both, residual_tree, Builds}
use Rattle.tre_derive.proofs.ToldAndLeft.{both_parts}
use Rattle.tre_derive.proofs.StepsOfForms.{step_both}
use Rattle.tre_derive.proofs.forms.meet.Goals as goal

pub returns : goal.returns
returns c =
    let one = c.args.one in
    let other = c.args.other in
    let left_one = residual_tree one.rest in
    let left_other = residual_tree other.rest in
    both_parts c.of.result c.meet-told.result c.both-rest.result
    (λ told. HoldExactly told (Both (SetHolds one.told) (SetHolds other.told)))
    (λ whole. Builds (residual_tree whole) (both left_one left_other)) _
    (λ s held built left right piece first second.
    step_both piece left right one.told other.told left_one left_other first second s.told
    (residual_tree s.rest) held built)
    c.of.ensures.told c.of.ensures.rest c.meet-told.ensures c.both-rest.ensures
