use Rattle.std.proofs.Common.{rules}
use Rattle.tre_state.specs.State.{tree_of}
use Rattle.tre_edges.proofs.AtomsOfSegments.{GivesZone-agree}
use Rattle.tre_edges.proofs.InstantsOfRests.{both_true}
use Rattle.tre_edges.proofs.in_piece.change_in.Goals as goal

pub returns-in-Some : goal.returns-in-Some
returns-in-Some c =
    search (rules, tree_of, both_true, GivesZone-agree, c.args.piece.now, c.args.truth)
