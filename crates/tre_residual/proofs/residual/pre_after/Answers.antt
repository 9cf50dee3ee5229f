use Rattle.tre_residual.specs.Residual.{residual_tree, preceded}
use Rattle.tre_residual.proofs.Forms.{dropped, nothing_after_none, preceded_composed}
use Rattle.tre_residual.proofs.residual.pre_after.Goals as goal

pub returns-then-is_empty : goal.returns-then-is_empty
returns-then-is_empty c =
    let whole = c.in_ok-whole.whole in
    let zones = c.args.zones.now in
    let first = c.args.first.now in
    let rest = residual_tree c.args.rest.value in
    dropped whole (λ list. preceded list rest) (preceded zones (preceded first rest))
    (nothing_after_none rest) (c.is_empty.ensures.0 c.if-is_empty.true)
    (preceded_composed whole zones first c.in_ok-whole.ensures rest)

pub returns : goal.returns
returns c =
    preceded_composed c.in_ok-whole.whole c.args.zones.now c.args.first.now c.in_ok-whole.ensures
    (residual_tree c.args.rest.value)
