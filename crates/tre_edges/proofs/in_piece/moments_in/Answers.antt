use Rattle.std.proofs.Common.{rules}
use Rattle.tre_edges.proofs.AtomsOfSegments.{moments_of_segment}
use Rattle.tre_edges.proofs.in_piece.moments_in.Goals as goal

pub returns : goal.returns
returns c = search (rules, moments_of_segment, c.args.piece.now, c.instants.result)
