use Rattle.std.proofs.lemmas.Result.{IfOk-weaker}
use Rattle.tre_state.specs.State.{tree_of}
use Rattle.tre_syntax.specs.PatternTree.{literal}
use Rattle.tre_edges.specs.Piece.{rest_of_piece}
use Rattle.tre_offline.proofs.atoms.PieceAtoms.literal.Goals as goal

pub returns : goal.returns
returns c =
    IfOk-weaker c.set_of.result _ _
    (λ zones exact.
    exact (literal (tree_of c.args.state.now)) (rest_of_piece c.args.self.now) c.literal_in.ensures)
    c.set_of.ensures
