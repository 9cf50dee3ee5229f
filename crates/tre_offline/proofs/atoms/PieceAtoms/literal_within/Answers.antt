use Rattle.std.proofs.lemmas.Result.{IfOk-weaker}
use Rattle.tre_state.specs.State.{tree_of}
use Rattle.tre_syntax.specs.PatternTree.{literal}
use Rattle.tre_syntax.specs.Rest.{AtomMatches}
use Rattle.tre_zone.specs.Interval.{LastsWithin}
use Rattle.tre_edges.specs.Piece.{rest_of_piece}
use Rattle.tre_offline.proofs.Operations.{lasting_exact}
use Rattle.tre_offline.proofs.atoms.PieceAtoms.literal_within.Goals as goal

pub returns : goal.returns
returns c =
    IfOk-weaker c.into_within.result _ _
    (λ zones held. lasting_exact (LastsWithin c.args.interval.now)
    (AtomMatches (rest_of_piece c.args.self.now) (literal (tree_of c.args.state.now)))
    c.in_ok-all.all zones c.in_ok-all.ensures held)
    c.into_within.ensures
