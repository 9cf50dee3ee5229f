use Rattle.std.proofs.lemmas.Result.{IfOk-weaker}
use Rattle.tre_state.specs.State as states
use Rattle.tre_syntax.specs.Expr.{tree_of}
use Rattle.tre_offline.proofs.EdgedLiterals.{found_exact, timed_names}
use Rattle.tre_offline.proofs.matching.edged_matches.Goals as goal

pub run_parts-requires : goal.run_parts-requires
run_parts-requires g c =
    timed_names _ (states.tree_of c.in-Some.it.state.now) c.in-Some.it.edges
    c.in-Some.it.interval (tree_of c.args.expr.now) (rw c.in-Some.is at c.edged.ensures)
    c.requires

pub returns-in-Some : goal.returns-in-Some
returns-in-Some g c =
    IfOk-weaker c.run_parts.result _ _
    (λ found held. found_exact (states.tree_of c.in-Some.it.state.now)
    (g.A.Atoms.rest c.args.atoms.now) c.in-Some.it.edges c.in-Some.it.interval
    (tree_of c.args.expr.now) found (rw c.in-Some.is at c.edged.ensures) held)
    c.run_parts.ensures
