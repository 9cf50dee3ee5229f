use Rattle.std.proofs.Common.{None}
use Rattle.tre_state.specs.State as states
use Rattle.tre_syntax.specs.Pattern.{pattern_tree}
use Rattle.tre_syntax.specs.Rest.{whole}
use Rattle.tre_offline.proofs.EdgedLiterals.{part_exact, timed_names}
use Rattle.tre_offline.proofs.matching.run_matches.Goals as goal

pub run_set-requires-clause-names : goal.run_set-requires-clause-names
run_set-requires-clause-names c =
    timed_names _ (states.tree_of c.in-Some.it.state.now) c.in-Some.it.edges None
    (pattern_tree c.args.pattern.now)
    (rw (c.in-Some.is, c.expr.ensures.tree) at c.unlimited.ensures) c.expr.ensures.pattern.numbers

pub returns-in_ok-runs-in-Some-clause-runs : goal.returns-in_ok-runs-in-Some-clause-runs
returns-in_ok-runs-in-Some-clause-runs c =
    part_exact (states.tree_of c.in-Some.it.state.now) (whole c.args.trace) c.in-Some.it.edges
    (pattern_tree c.args.pattern.now) _
    (rw (c.in-Some.is, c.expr.ensures.tree) at c.unlimited.ensures) c.in_ok-runs-in-Some.ensures
