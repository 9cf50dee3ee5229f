use Rattle.std.proofs.lemmas.Bool.{both_ways}
use Rattle.tre_state.specs.State.{tree_of}
use Rattle.tre_node.proofs.LiteralTold.{literal_off, literal_on}
use Rattle.tre_node.proofs.holding.look_literal.Goals as goal

pub returns-then-eval : goal.returns-then-eval
returns-then-eval c =
    literal_on c.args.piece.now (tree_of c.args.state.now) c.args.begun.now.items c.requires.begun
    (c.eval.ensures.holds.0 c.if-eval.true)
    c.in_ok-hold_on.ensures

pub returns : goal.returns
returns c =
    literal_off c.args.piece.now (tree_of c.args.state.now) c.args.begun.now.items c.requires.begun
    (λ holds. both_ways c.eval.result c.if-eval.false (c.eval.ensures.holds.1 holds))
    c.in_ok-end_begun.ensures
