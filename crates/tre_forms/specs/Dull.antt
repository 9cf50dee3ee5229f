-- Where nothing that enters goes on behind the piece.
use Rattle.tre_pairs.specs.Pairs.{Pairs}
use Rattle.tre_pairs.proofs.Dull.{IsDull}
use Rattle.tre_trace.specs.Trace.{Timeline, AreLong}
use Rattle.tre_syntax.specs.Meaning.{MatchesRest}
use Rattle.tre_syntax.specs.PatternTree.{PatternTree}
use Rattle.tre_edges.specs.Piece.{end_of_piece}
use Rattle.tre_edges.specs.declared.piece.Piece.{Piece}
use Rattle.tre_forms.specs.Enters.{over}

-- No pair.
abbrev pub None : Pairs
None a b n = ⊥

-- What begins before the end of the piece ends before it, whatever comes.
pub record IsDullOver (piece : Piece) (tree : PatternTree) : Type 0 where
  pub dull : (next : Timeline) → AreLong next.segments
      → IsDull (end_of_piece piece) (MatchesRest tree (over piece next))
