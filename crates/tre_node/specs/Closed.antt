-- What the end of the trace makes of a node.
use Rattle.std.specs.Prelude.{◌≡◌, ℕ, List, [], Option}
use Rattle.tre_pairs.specs.Pairs.{Pairs}
use Rattle.tre_pairs.specs.Same.{Same}
use Rattle.tre_zone.specs.Held.{Held, IsSetOf}
use Rattle.tre_zone.specs.Interval.{IntervalEnds}
use Rattle.tre_zone.specs.Longest.{LastsUpTo}
use Rattle.tre_zone.specs.declared.zone_bounds.ZoneBounds.{ZoneBounds}
use Rattle.tre_trace.specs.Trace.{timeline_of}
use Rattle.tre_syntax.specs.Meaning.{MatchesRest}
use Rattle.tre_syntax.specs.PatternTree.{PatternTree, sequence, alternation, intersection, repetition, restriction}
use Rattle.tre_syntax.specs.Rest.{Rest, rest_of, HasEvent, InstantMatches}
use Rattle.tre_mark.specs.MarkTree.{MarkTree, sequence_mark, alternation_mark, intersection_one, repetition_mark, restriction_one}
use Rattle.tre_mark.specs.Marked.{Marked}
use Rattle.tre_node.specs.declared.node.Around.{Around}
use Rattle.tre_node.specs.declared.node.Node.{Node}
use Rattle.tre_node.specs.NodeTree.{around_of, led_by, mark_of_node, tree_of_node}

-- Found are the matches inside the rest, and told, up to the longest duration that counts, the
-- pairs of the mark over it.
pub record Seen (longest : Option ℕ) (rest : Rest) (mark : MarkTree) (tree : PatternTree)
    (found told : List ZoneBounds) : Type 0 where
  pub inside : IsSetOf found (MatchesRest tree rest)
  pub ended : Same (LastsUpTo longest) (Held told) (Marked rest mark tree)

-- No segment comes any more, and these events happen at the time.
abbrev pub end_rest : ℕ → Option ℕ → ℕ → Rest
end_rest time before events = rest_of time before (timeline_of [] events)

-- The node stood where the trace ends, and tells what that makes of it, whatever held before.
pub record HasClosed (time events : ℕ) (before after : Node) : Type 0 where
  pub tree : tree_of_node after ≡ tree_of_node before
  pub counts : (around_of after).longest ≡ (around_of before).longest
  pub tells : (last : Option ℕ) → Seen (around_of before).longest (end_rest time last events)
      (mark_of_node time before) (tree_of_node before) (around_of after).inside.items
      (around_of after).ended.items

-- A node with this around it tells what the end makes of it.
pub record ClosesAs (time events : ℕ) (mark : MarkTree) (tree : PatternTree)
    (around around' : Around) : Type 0 where
  pub counts : around'.longest ≡ around.longest
  pub tells : (last : Option ℕ) → Seen around.longest (end_rest time last events) mark tree
      around'.inside.items around'.ended.items

-- The same, and its parts are of the expressions that they were of.
pub record ClosesBoth (time events : ℕ) (mark : MarkTree) (tree : PatternTree)
    (around around' : Around) (left left' right right' : Node) : Type 0 where
  pub closes : ClosesAs time events mark tree around around'
  pub one : tree_of_node left' ≡ tree_of_node left
  pub other : tree_of_node right' ≡ tree_of_node right

pub record ClosesBody (time events : ℕ) (mark : MarkTree) (tree : PatternTree)
    (around around' : Around) (body body' : Node) : Type 0 where
  pub closes : ClosesAs time events mark tree around around'
  pub inner : tree_of_node body' ≡ tree_of_node body

abbrev pub SequenceCloses : ℕ → ℕ → Around → Around → Node → Node → Node → Node → Type 0
SequenceCloses time events around around' left left' right right' = ClosesBoth time events
    (sequence_mark (mark_of_node time left) (mark_of_node time right))
    (sequence (tree_of_node left) (tree_of_node right)) around around' left left' right right'

abbrev pub AlternationCloses : ℕ → ℕ → Around → Around → Node → Node → Node → Node → Type 0
AlternationCloses time events around around' left left' right right' = ClosesBoth time events
    (alternation_mark (mark_of_node time left) (mark_of_node time right))
    (alternation (tree_of_node left) (tree_of_node right)) around around' left left' right right'

abbrev pub RepetitionCloses : ℕ → ℕ → Around → Around → Node → Node → Type 0
RepetitionCloses time events around around' body body' = ClosesBody time events
    (repetition_mark [] (mark_of_node time body)) (repetition (tree_of_node body)) around around'
    body body'

abbrev pub RestrictionCloses : ℕ → ℕ → IntervalEnds → List ZoneBounds → Around → Around → Node
    → Node → Type 0
RestrictionCloses time events interval outer around around' body body' = ClosesBody time events
    (restriction_one 0 (led_by around.whole outer) (mark_of_node time body))
    (restriction (tree_of_node body) interval) around around' body body'

abbrev pub IntersectionCloses : ℕ → ℕ → List ZoneBounds → Around → Around → Node → Node → Node
    → Node → Type 0
IntersectionCloses time events outer around around' left left' right right' =
    ClosesBoth time events
    (intersection_one 0 (led_by around.whole outer) (mark_of_node time left)
    (mark_of_node time right))
    (intersection (tree_of_node left) (tree_of_node right)) around around' left left' right right'

-- The event happens at the end.
abbrev pub HappensAt : ℕ → ℕ → ℕ → Pairs
HappensAt number time events = InstantMatches (HasEvent number time [] events)
