use Rattle.std.proofs.Common.{arith}
use Rattle.tre_syntax.specs.Expr.{tree_of}
use Rattle.tre_syntax.proofs.Counts.{node_count-positive}
use Rattle.tre_syntax.proofs.count.+left_after.Goals as goal

pub returns-then-budget-eq0 : goal.returns-then-budget-eq0
returns-then-budget-eq0 t c = omega (arith, node_count-positive (tree_of c.args.expr.now))
