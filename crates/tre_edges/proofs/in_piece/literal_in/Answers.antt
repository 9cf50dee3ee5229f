use Rattle.std.proofs.Common.{rules}
use Rattle.tre_state.specs.State.{tree_of}
use Rattle.tre_edges.proofs.AtomsOfSegments.{literal_of_segment}
use Rattle.tre_edges.proofs.in_piece.literal_in.Goals as goal

pub returns : goal.returns
returns c =
    search (rules, literal_of_segment, tree_of, c.args.piece.now, c.if-not-eval.ensures.holds.0)
