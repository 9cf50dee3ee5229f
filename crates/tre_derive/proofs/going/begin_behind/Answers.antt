use Rattle.std.proofs.lemmas.Result.{IfOk-weaker}
use Rattle.tre_zone.specs.Held.{Held}
use Rattle.tre_syntax.specs.Expr.{tree_of}
use Rattle.tre_node.specs.NodeTree.{around_of}
use Rattle.tre_residual.specs.Residual.{residual_tree}
use Rattle.tre_derive.proofs.Passing.{begins_of, may_enter}
use Rattle.tre_derive.proofs.going.begin_behind.Goals as goal

pub go_over-requires-clause-root : goal.go_over-requires-clause-root
go_over-requires-clause-root c = record {
  node_is = c.in_ok-node.ensures.node_is c.args.piece.now.begin;
  counts = c.in_ok-node.ensures.made.counts;
}

pub go_over-requires-clause-enter : goal.go_over-requires-clause-enter
go_over-requires-clause-enter c =
    may_enter c.args.piece.now.begin (around_of c.in_ok-node.node) c.args.whole
    (Held c.args.zones.now) c.in_ok-node.ensures.made c.requires.from c.requires.moments

pub returns : goal.returns
returns c =
    IfOk-weaker c.go_over.result _ _
    (λ begun goes.
    begins_of c.args.piece.now c.in_ok-node.node begun.told (residual_tree begun.rest)
    (tree_of c.args.expr.now) c.args.whole c.args.zones.now c.in_ok-node.ensures goes)
    c.go_over.ensures
