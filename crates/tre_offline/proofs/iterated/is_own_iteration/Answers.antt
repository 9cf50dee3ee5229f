use Rattle.tre_syntax.specs.Expr.{tree_of}
use Rattle.tre_offline.proofs.Spanning.{spanned_iteration, own_iteration}
use Rattle.tre_offline.proofs.iterated.is_own_iteration.Goals as goal

pub returns-then-is_iteration : goal.returns-then-is_iteration
returns-then-is_iteration c = λ yes.
    own_iteration (tree_of c.args.expr.now) (c.is_iteration.ensures c.if-is_iteration.true)

pub returns : goal.returns
returns c = λ yes.
    spanned_iteration (tree_of c.args.expr.now) (c.spans.ensures yes)
