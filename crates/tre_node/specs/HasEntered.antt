-- What the second walk makes of a node that was looked at.
use Rattle.std.specs.Prelude.{◌≡◌, ℕ, ◌⊎◌, List, [], ◌∷◌, true, false, Bool, Option, All}
use Rattle.tre_pairs.specs.Pairs.{Pairs, Either, Composed}
use Rattle.tre_pairs.proofs.Laws.{IsInstant}
use Rattle.tre_zone.specs.Held.{Held, IsSetOf}
use Rattle.tre_zone.specs.declared.zone_bounds.ZoneBounds.{ZoneBounds}
use Rattle.tre_syntax.specs.PatternTree.{sequence}
use Rattle.tre_edges.specs.Piece.{end_of_piece}
use Rattle.tre_edges.specs.declared.piece.Piece.{Piece}
use Rattle.tre_mark.specs.MarkTree.{MarkTree, sequence_mark}
use Rattle.tre_forms.specs.Begun.{EndsFrom, BeginsBefore}
use Rattle.tre_forms.specs.Enters.{Enters}
use Rattle.tre_node.specs.declared.node.Around.{Around}
use Rattle.tre_node.specs.declared.node.Node.{Node}
use Rattle.tre_node.specs.declared.node.Stretch.{Stretch}
use Rattle.tre_node.specs.Stretches.{AddsMoments}
use Rattle.tre_node.specs.Outer.{AreKept}
use Rattle.tre_pairs.specs.Before.{Before}
use Rattle.tre_zone.specs.Zone.{instants_of}
use Rattle.tre_node.specs.IsNode.{IsMade, IsNode, IsStretch, IsInReach}
use Rattle.tre_node.specs.Looked.{Looked}
use Rattle.tre_node.specs.Settling.{IsKnown, AreKnown}
use Rattle.tre_node.specs.NodeTree.{around_of, tree_of_node, mark_of_node}

-- What enters a node: as far as it counts it ends at the time or later, and where only moments
-- enter it is moments.
pub record MayEnter (time : ℕ) (around : Around) (E : Pairs) : Type 0 where
  pub from : EndsFrom around.longest time E
  pub moments : around.whole ≡ true → IsInstant E

-- The node was looked at with this mark before the piece, and is now behind the piece where these
-- pairs entered on the way.
pub record HasEntered (piece : Piece) (entering : List ZoneBounds) (before after : Node) : Type 0 where
  pub tree : tree_of_node after ≡ tree_of_node before
  pub made : IsMade (around_of before).longest (around_of before).whole (around_of after)
  pub node : IsNode (end_of_piece piece) before → IsNode (end_of_piece piece) after
  pub goes : (old : MarkTree) → Looked piece old before
      → MayEnter piece.begin (around_of before) (Held entering)
      → Enters (around_of before).longest piece old (tree_of_node before) (Held entering)
      (mark_of_node (end_of_piece piece) after)

-- The same, where it is known whether something has begun: in the parts, and in the node.
pub record HasEnteredForm (piece : Piece) (entering : List ZoneBounds) (before after : Node) : Type 0
  where
    pub entered : HasEntered piece entering before after
    pub known : AreKnown after

pub record HasGoneIn (piece : Piece) (entering : List ZoneBounds) (before after : Node) : Type 0
  where
    pub entered : HasEntered piece entering before after
    pub known : IsKnown after

-- The same of both parts of a sequence, which goes on as its parts do.
pub record HaveEntered (piece : Piece) (entering : List ZoneBounds) (left left' right right' : Node)
    : Type 0 where
  pub left_tree : tree_of_node left' ≡ tree_of_node left
  pub right_tree : tree_of_node right' ≡ tree_of_node right
  pub left_made : IsMade (around_of left).longest (around_of left).whole (around_of left')
  pub right_made : IsMade (around_of right).longest (around_of right).whole (around_of right')
  pub left_node : IsNode (end_of_piece piece) left → IsNode (end_of_piece piece) left'
  pub right_node : IsNode (end_of_piece piece) right → IsNode (end_of_piece piece) right'
  pub left_known : IsKnown left'
  pub right_known : IsKnown right'
  pub goes : (one other : MarkTree) → Looked piece one left → Looked piece other right
      → (around_of left).longest ≡ (around_of right).longest → (around_of right).whole ≡ false
      → MayEnter piece.begin (around_of left) (Held entering)
      → Enters (around_of left).longest piece (sequence_mark one other)
      (sequence (tree_of_node left) (tree_of_node right)) (Held entering)
      (sequence_mark (mark_of_node (end_of_piece piece) left')
      (mark_of_node (end_of_piece piece) right'))

-- Both were entered by the same.
pub record HaveBothEntered (piece : Piece) (entering : List ZoneBounds)
    (one one' other other' : Node) : Type 0 where
  pub left : HasEntered piece entering one one'
  pub right : HasEntered piece entering other other'
  pub left_known : IsKnown one'
  pub right_known : IsKnown other'

-- The body was entered by what ended and by what entered and has a match inside, or by nothing
-- where nothing in it goes on behind the piece.
pub record EntersAgain (piece : Piece) (ended inside entering : List ZoneBounds)
    (body body' : Node) : Type 0 where
  pub fed : List ZoneBounds
  pub entered : HasEntered piece fed body body'
  pub known : IsKnown body'
  pub is : IsSetOf fed (Either (Held ended) (Composed (Held entering) (Held inside)))
      ⊎ ((fed ≡ []) × ((around_of body).lives ≡ false))

-- Where the state holds throughout the piece, the pairs begin that end before its end.
pub record EntersBegun (lives : Bool) (time : ℕ) (entering : List ZoneBounds) (old new : List Stretch)
    : Type 0 where
  pub adds : lives ≡ true → AddsMoments old (BeginsBefore time (Held entering)) new
  pub same : lives ≡ false → new ≡ old
  pub are : All (IsStretch time) old → All (IsStretch time) new

-- What leads on, and what enters the instances: all moments of the piece, or nothing, where nothing
-- enters or nothing goes on behind the piece.
pub record LeadsIn (piece : Piece) (reach : Option ℕ) (lives : Bool)
    (entering outer outer' fed : List ZoneBounds) : Type 0 where
  pub reached : All (IsInReach (end_of_piece piece) reach) outer
      → All (IsInReach (end_of_piece piece) reach) outer'
  pub how :
      ((fed ≡ instants_of piece.begin (end_of_piece piece) ∷ [])
      × AreKept reach (end_of_piece piece)
      (Either (Held outer) (Before (end_of_piece piece) (Held entering))) outer')
      ⊎ ((fed ≡ []) × (outer' ≡ outer) × ((lives ≡ false) ⊎ (entering ≡ [])))
