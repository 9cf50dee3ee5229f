use Rattle.std.proofs.Common.{arith}
use Rattle.tre_state.specs.State.{tree_of}
use Rattle.tre_syntax.proofs.Counts.{state_node_count-positive}
use Rattle.tre_syntax.proofs.count.+left_after_state.Goals as goal

pub returns-then-budget-eq0 : goal.returns-then-budget-eq0
returns-then-budget-eq0 t c = omega (arith, state_node_count-positive (tree_of c.args.state.now))
