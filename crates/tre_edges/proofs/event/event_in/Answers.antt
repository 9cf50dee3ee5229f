use Rattle.tre_syntax.specs.Rest.{EventMatches}
use Rattle.tre_edges.specs.Piece.{rest_of_piece}
use Rattle.tre_edges.specs.Truth.{IsFoundAt}
use Rattle.tre_edges.proofs.AtomsOfSegments.{GivesZone-agree, event_of_segment}
use Rattle.tre_edges.proofs.event.event_in.Goals as goal

pub returns : goal.returns
returns c =
    let piece = c.args.piece.now in
    GivesZone-agree c.instant_of.result (IsFoundAt c.happens.result piece.begin)
    (EventMatches c.args.number (rest_of_piece piece))
    (event_of_segment c.args.number piece.begin piece.before piece.segment c.happens.result
    c.happens.ensures)
    c.instant_of.ensures
