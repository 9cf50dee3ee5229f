use Rattle.std.proofs.Common.{◌∙◌, ap, refl}
use Rattle.std.proofs.lemmas.Result.{IfOk-at_ok}
use Rattle.tre_syntax.specs.PatternTree.{intersection}
use Rattle.tre_node.specs.NodeTree.{tree_of_node}
use Rattle.tre_node.proofs.NewNodes.{new_own, parts_new}
use Rattle.tre_node.proofs.making.make_intersection.Goals as goal

pub returns : goal.returns
returns c one other l r =
    let f = IfOk-at_ok _ c.in_ok-left.ensures.one l in
    let g = IfOk-at_ok _ c.in_ok-left.ensures.other r in
    parts_new c.requires c.around.ensures (refl, c.new.ensures.items, new_own f, new_own g)
    (ap (λ t. intersection t (tree_of_node c.in_ok-left.right.value)) f.tree_is
    ∙ ap (λ t. intersection one t) g.tree_is)
