use Rattle.std.proofs.Common.{ap}
use Rattle.std.proofs.lemmas.Result.{IfOk-at_ok}
use Rattle.tre_syntax.specs.PatternTree.{repetition}
use Rattle.tre_node.proofs.NewNodes.{new_own, parts_new}
use Rattle.tre_node.proofs.making.make_repetition.Goals as goal

pub returns : goal.returns
returns c tree l =
    let f = IfOk-at_ok _ c.in_ok-body.ensures l in
    parts_new c.requires c.around.ensures (new_own f) (ap (λ t. repetition t) f.tree_is)
