-- What a piece makes of a mark that pairs enter before its end.
use Rattle.std.specs.Prelude.{ℕ, [], Option}
use Rattle.tre_pairs.specs.Cuts.{Crossing}
use Rattle.tre_pairs.specs.Pairs.{Pairs, Composed, Either}
use Rattle.tre_zone.specs.Longest.{LastsUpTo}
use Rattle.tre_trace.specs.Trace.{Timeline, quiet, AreLong}
use Rattle.tre_syntax.specs.Cut.{uncut, back_of}
use Rattle.tre_syntax.specs.Meaning.{MatchesRest}
use Rattle.tre_syntax.specs.PatternTree.{PatternTree}
use Rattle.tre_syntax.specs.Rest.{Rest}
use Rattle.tre_edges.specs.Piece.{end_of_piece, cut_behind}
use Rattle.tre_edges.specs.declared.piece.Piece.{Piece}
use Rattle.tre_mark.specs.MarkTree.{MarkTree}
use Rattle.tre_mark.specs.Marked.{Marked}
use Rattle.tre_pairs.specs.Before.{Before}
use Rattle.tre_pairs.specs.Same.{Same}

abbrev pub over : Piece → Timeline → Rest
over piece next = uncut (cut_behind piece next)

abbrev pub alone : Piece → Rest
alone piece = uncut (cut_behind piece (quiet []))

abbrev pub behind : Piece → Timeline → Rest
behind piece next = back_of (cut_behind piece next)

-- What the mark goes on with, and what E does that enters.
abbrev pub Goes : Piece → Timeline → MarkTree → PatternTree → Pairs → Pairs
Goes piece next mark tree E a b n =
    Either (Marked (over piece next) mark tree)
    (Composed E (MatchesRest tree (over piece next))) a b n

-- The same where nothing comes behind the piece.
abbrev pub GoesAlone : Piece → MarkTree → PatternTree → Pairs → Pairs
GoesAlone piece mark tree E a b n =
    Either (Marked (alone piece) mark tree)
    (Composed E (MatchesRest tree (alone piece))) a b n

-- Of what lasts up to the longest duration, the new mark stands for just what crosses the end of
-- the piece: of what goes on, and of what E does that enters before that end.
pub record Enters (longest : Option ℕ) (piece : Piece) (old : MarkTree) (tree : PatternTree)
    (E : Pairs) (new : MarkTree) : Type 0 where
  pub leaves : (next : Timeline) → AreLong next.segments
      → Same (LastsUpTo longest) (Marked (behind piece next) new tree)
      (Crossing (end_of_piece piece)
      (Goes piece next old tree (Before (end_of_piece piece) E)))
