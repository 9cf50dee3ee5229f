-- What the functions inside a session promise each other.
use Rattle.std.specs.Prelude.{◌≡◌, ℕ, Option, Some, None, true, List}
use Rattle.tre_pairs.specs.Pairs.{Either}
use Rattle.tre_edges.specs.Piece.{end_of_piece}
use Rattle.tre_edges.specs.declared.piece.Piece.{Piece}
use Rattle.tre_syntax.specs.Meaning.{MatchesRest}
use Rattle.tre_syntax.specs.PatternTree.{PatternTree}
use Rattle.tre_syntax.specs.Rest.{Rest}
use Rattle.tre_trace.specs.declared.segment.Segment.{Segment}
use Rattle.tre_zone.specs.Held.{Held}
use Rattle.tre_zone.specs.Zone.{IsInstantBetween}
use Rattle.tre_zone.specs.ZoneList.{HoldExactly}
use Rattle.tre_zone.specs.declared.zone_bounds.ZoneBounds.{ZoneBounds}
use Rattle.tre_zoneset.specs.ZoneSet.{IsZoneSet, Without}
use Rattle.tre_mark.specs.MarkTree.{MarkTree}
use Rattle.tre_mark.specs.Marked.{Marked}
use Rattle.tre_forms.specs.Enters.{Enters, alone}
use Rattle.tre_node.specs.Closed.{end_rest}
use Rattle.tre_node.specs.declared.node.Node.{Node}
use Rattle.tre_node.specs.IsNode.{IsMade, IsNode}
use Rattle.tre_node.specs.NodeTree.{around_of, mark_of_node, tree_of_node}
use Rattle.tre_online.specs.Session.{at_of, held_of}
use Rattle.tre_online.specs.Told.{WasTold}
use Rattle.tre_online.specs.declared.session.Progress.{Progress}
use Rattle.tre_online.specs.declared.session.Session.{Session}

-- The zones are the moments from one time to another, each as a pair.
pub record AreMoments (from to : ℕ) (zones : List ZoneBounds) : Type 0 where
  pub exact : HoldExactly zones (IsInstantBetween from to)

-- The piece is the segment where the session's trace ends so far.
pub record IsPieceFor (session : Session) (segment : Segment) (piece : Piece) : Type 0 where
  pub begin : piece.begin ≡ at_of session
  pub same : piece.segment ≡ segment
  pub before : piece.before ≡ held_of session

-- Told are the matches that begin in the rest, and those that the mark stands for over it.
pub record TellsOver (rest : Rest) (mark : MarkTree) (tree : PatternTree)
    (told : List ZoneBounds) : Type 0 where
  pub exact : HoldExactly told (Either (MatchesRest tree rest) (Marked rest mark tree))

-- The same of the end of the trace, whatever held before.
pub record TellsAtEnd (time events : ℕ) (mark : MarkTree) (tree : PatternTree)
    (told : List ZoneBounds) : Type 0 where
  pub each : (last : Option ℕ) → TellsOver (end_rest time last events) mark tree told

-- The node, which stood for the mark, has gone over the piece, with matches entering at every
-- moment of it, and told what was found.
pub record FindsInPiece (mark : MarkTree) (tree : PatternTree) (piece : Piece)
    (found : List ZoneBounds) (node : Node) : Type 0 where
  pub set : IsZoneSet found
  pub tells : TellsOver (alone piece) mark tree found
  pub entering : List ZoneBounds
  pub moments : AreMoments piece.begin (end_of_piece piece) entering
  pub leaves : Enters None piece mark tree (Held entering) (mark_of_node (end_of_piece piece) node)
  pub tree_is : tree_of_node node ≡ tree
  pub made : IsMade None true (around_of node)
  pub node_is : IsNode (end_of_piece piece) node

-- What is told is what was found, without what was told earlier.
pub record ReadsPiece (mark : MarkTree) (tree : PatternTree) (earlier : List ZoneBounds)
    (piece : Piece) (told : List ZoneBounds) (node : Node) : Type 0 where
  pub found : List ZoneBounds
  pub finds : FindsInPiece mark tree piece found node
  pub without : Without (WasTold earlier) found told

-- The progress is that at the end of the piece, of which this was told.
pub record IsPastPiece (piece : Piece) (zones : List ZoneBounds) (progress : Progress) : Type 0 where
  pub at : progress.at ≡ end_of_piece piece
  pub last : progress.last ≡ Some piece.segment.val
  pub told : progress.told.items ≡ zones
