use Rattle.std.proofs.lemmas.Result.{IfOk-weaker}
use Rattle.tre_syntax.specs.PatternTree.{event}
use Rattle.tre_edges.specs.Piece.{rest_of_piece}
use Rattle.tre_offline.proofs.atoms.PieceAtoms.events.Goals as goal

pub returns : goal.returns
returns c =
    IfOk-weaker c.set_of.result _ _
    (λ zones exact.
    exact (event c.args.number) (rest_of_piece c.args.self.now) c.event_in.ensures)
    c.set_of.ensures
