-- What one more piece of a trace makes of the matches that have begun, whatever comes behind it.
use Rattle.std.specs.Prelude.{◌≡◌, ℕ, ◌*◌, ◌<◌, ◌≤◌, ◌↔◌, List, ◌++◌}
use Rattle.tre_pairs.specs.Before.{Before}
use Rattle.tre_pairs.specs.Cuts.{Crossing}
use Rattle.tre_pairs.specs.Pairs.{Pairs, Composed, Either}
use Rattle.tre_zone.specs.Held.{Held}
use Rattle.tre_zone.specs.Zone.{IsInstantBetween}
use Rattle.tre_zone.specs.ZoneList.{HoldExactly}
use Rattle.tre_zone.specs.declared.zone_bounds.ZoneBounds.{ZoneBounds}
use Rattle.tre_trace.specs.Trace.{Timeline, AreLong}
use Rattle.tre_syntax.specs.Cut.{uncut, back_of, MatchesAcross}
use Rattle.tre_syntax.specs.Meaning.{MatchesRest}
use Rattle.tre_state.specs.declared.names.TheConstants.{NAMES_MAX}
use Rattle.tre_syntax.specs.PatternTree.{PatternTree, NumbersBelow}
use Rattle.tre_edges.specs.Piece.{rest_of_piece, end_of_piece, cut_behind}
use Rattle.tre_edges.specs.declared.piece.Piece.{Piece}
use Rattle.tre_forms.specs.Enters.{Goes, GoesAlone}
use Rattle.tre_node.specs.HasEntered.{HasEntered}
use Rattle.tre_node.specs.Looked.{HasLooked}
use Rattle.tre_node.specs.NodeTree.{around_of, mark_of_node, tree_of_node}
use Rattle.tre_node.specs.declared.node.Node.{Node}
use Rattle.tre_residual.specs.Residual.{ResidualTree, joined, followed, either, marked, Means, IsWellAt, Builds}

-- R, to the time or to a later one.
pub record EndingFrom (time : ℕ) (R : Pairs) (a b n : ℕ) : Type 0 where
  pub related : R a b n
  pub end : time * n ≤ b

-- The residual is one at the end of the piece, and whatever comes behind the piece, it stands for
-- the pairs that are named for that.
pub record StandsBehind (piece : Piece) (pairs : Timeline → Pairs) (residual : ResidualTree)
    : Type 0 where
  pub exact : (next : Timeline) (a b n : ℕ) → AreLong next.segments → 0 < n
      → Means residual (back_of (cut_behind piece next)) a b n ↔ pairs next a b n
  pub well : IsWellAt (end_of_piece piece) residual

-- The residual stands for the matches of the expression that begin in the piece, its end among
-- them, and end as the piece ends or later.
pub record IsFresh (tree : PatternTree) (piece : Piece) (residual : ResidualTree) : Type 0 where
  pub across : StandsBehind piece (λ next. MatchesAcross tree (cut_behind piece next)) residual

-- What is told are the pairs of the residual where the piece alone comes, and what is left stands
-- for those that end as the piece ends or later, whatever comes behind it.
pub record StepsTo (residual : ResidualTree) (piece : Piece) (told : List ZoneBounds)
    (rest : ResidualTree) : Type 0 where
  pub tells : HoldExactly told (Means residual (rest_of_piece piece))
  pub leaves : StandsBehind piece
      (λ next. EndingFrom (end_of_piece piece) (Means residual (uncut (cut_behind piece next))))
      rest

-- The same of a pattern under way, where the pairs of the set enter on the way: those that end
-- before the piece does are among what is left.
pub record GoesOverTo (node : Node) (enter : List ZoneBounds) (piece : Piece)
    (told : List ZoneBounds) (rest : ResidualTree) : Type 0 where
  pub tells : HoldExactly told (GoesAlone piece (mark_of_node piece.begin node)
      (tree_of_node node) (Held enter))
  pub leaves : StandsBehind piece
      (λ next. Crossing (end_of_piece piece) (Goes piece next (mark_of_node piece.begin node)
      (tree_of_node node) (Before (end_of_piece piece) (Held enter)))) rest

-- The new list has more behind the old one: what the pattern under way tells, which is then what is
-- left of it.
pub record Advances (before : Node) (enter : List ZoneBounds) (piece : Piece)
    (told told' : List ZoneBounds) (after : Node) : Type 0 where
  pub more : List ZoneBounds
  pub adds : told' ≡ told ++ more
  pub goes : GoesOverTo before enter piece more (marked after)

-- The same of the pairs of the set, each followed by a match of the expression.
pub record BeginsBehindPairs (tree : PatternTree) (enter : List ZoneBounds) (piece : Piece)
    (told : List ZoneBounds) (rest : ResidualTree) : Type 0 where
  pub tells : HoldExactly told (Composed (Held enter) (MatchesRest tree (rest_of_piece piece)))
  pub leaves : StandsBehind piece
      (λ next. Crossing (end_of_piece piece)
      (Composed (Before (end_of_piece piece) (Held enter))
      (MatchesRest tree (uncut (cut_behind piece next))))) rest

-- The pattern was looked at over the piece, the set has the pairs that it tells, and then the pairs
-- entered.
pub record TellsAsSet (before : Node) (enter : List ZoneBounds) (piece : Piece)
    (told : List ZoneBounds) (after : Node) : Type 0 where
  pub looked : Node
  pub looks : HasLooked piece before looked
  pub entered : HasEntered piece enter looked after
  pub holds : HoldExactly told (Either (Held (around_of looked).ended.items)
      (Composed (Held enter) (Held (around_of looked).inside.items)))

-- The whole stands for a pair of the residual, and then a match of the expression, and for the
-- pairs of the other.
pub record ComesBehind (residual : ResidualTree) (tree : PatternTree) (other whole : ResidualTree)
    : Type 0 where
  pub behind : ResidualTree
  pub follows : Builds behind (followed residual tree)
  pub builds : Builds whole (either behind other)

-- The residual stands for the matches of the expression that begin at the time.
pub record BeginsAt (tree : PatternTree) (time : ℕ) (residual : ResidualTree) : Type 0 where
  pub moment : List ZoneBounds
  pub is : HoldExactly moment (IsInstantBetween time time)
  pub numbers : NumbersBelow NAMES_MAX tree
  pub builds : Builds residual (joined moment tree)

-- The whole stands for the pairs of the residual and for these matches.
pub record BeginsToo (residual : ResidualTree) (tree : PatternTree) (time : ℕ)
    (whole : ResidualTree) : Type 0 where
  pub beginning : ResidualTree
  pub begins : BeginsAt tree time beginning
  pub builds : Builds whole (either residual beginning)
