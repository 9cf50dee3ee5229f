use Rattle.std.proofs.Common.{ap}
use Rattle.tre_node.specs.NodeTree.{begun_at}
use Rattle.tre_node.proofs.SetsOf.{none_first}
use Rattle.tre_node.proofs.holding.put_onward.Goals as goal

pub returns : goal.returns
returns c =
    none_first _ c.clear.ensures.items
    (ap (λ list. begun_at c.args.piece.now.begin list) (c.has_begun.ensures c.if-has_begun.false))
