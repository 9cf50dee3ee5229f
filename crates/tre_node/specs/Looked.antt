-- What the first walk leaves in a node for the second.
use Rattle.std.specs.Prelude.{◌≡◌, ℕ, ◌-◌, ◌*◌, ◌<◌, ◌≤◌, List, [], ◌∷◌, true, false, Bool, Option}
use Rattle.tre_pairs.specs.Pairs.{Pairs, Both}
use Rattle.tre_pairs.specs.Same.{Same}
use Rattle.tre_pairs.specs.declared.TheConstants.{TIME_MAX}
use Rattle.tre_zone.specs.Held.{Held, IsSetOf}
use Rattle.tre_zone.specs.Interval.{LastsWithin}
use Rattle.tre_zone.specs.Longest.{LastsUpTo}
use Rattle.tre_zone.specs.Zone.{instants_of}
use Rattle.tre_zone.specs.declared.zone_bounds.ZoneBounds.{ZoneBounds}
use Rattle.tre_state.specs.State.{tree_of}
use Rattle.tre_state.specs.StateTree.{StateTree}
use Rattle.tre_trace.specs.Trace.{Timeline, AreLong}
use Rattle.tre_syntax.specs.Meaning.{MatchesRest}
use Rattle.tre_syntax.specs.PatternTree.{PatternTree, literal, atom}
use Rattle.tre_edges.specs.Piece.{end_of_piece}
use Rattle.tre_edges.specs.declared.piece.Piece.{Piece}
use Rattle.tre_mark.specs.MarkTree.{MarkTree, atom_mark, sequence_mark, alternation_mark, intersection_one, repetition_mark, restriction_one}
use Rattle.tre_mark.specs.Marked.{AnyDuration, Marked}
use Rattle.tre_forms.specs.Begun.{Begins}
use Rattle.tre_forms.specs.Enters.{over, alone, Enters}
use Rattle.tre_forms.specs.Dull.{IsDullOver, None}
use Rattle.tre_node.specs.declared.node.Stretch.{Stretch}
use Rattle.tre_node.specs.declared.node.Around.{Around}
use Rattle.tre_node.specs.declared.node.Node.{Node, Eps, Lit, Rise, Fall, Event, Seq', Alt', Meet', Star', Within'}
use Rattle.tre_node.specs.IsNode.{IsMade, IsNode}
use Rattle.tre_node.specs.NodeTree.{around_of, begun_at, tree_of_node, mark_of_node}

-- Found are the matches inside the piece, and told, up to the longest duration that counts, what
-- the piece alone makes of the old mark. Where what enters doesn't live, nothing of it goes on
-- behind the piece. What had begun did so before the piece.
pub record Told (longest : Option ℕ) (piece : Piece) (old : MarkTree) (tree : PatternTree)
    (found told : List ZoneBounds) (lives : Bool) : Type 0 where
  pub inside : IsSetOf found (MatchesRest tree (alone piece))
  pub ended : Same (LastsUpTo longest) (Held told) (Marked (alone piece) old tree)
  pub dull : lives ≡ false → IsDullOver piece tree
  pub began : (next : Timeline) (a b n : ℕ) → 0 < n → Marked (over piece next) old tree a b n
      → a < piece.begin * n

abbrev pub Tells : Piece → MarkTree → PatternTree → Around → Type 0
Tells piece old tree around =
    Told around.longest piece old tree around.inside.items around.ended.items around.lives

-- The state holds throughout the piece.
pub record HoldsOver (piece : Piece) (state : StateTree) : Type 0 where
  pub holds : (c n : ℕ) → 0 < n → piece.begin * n ≤ c → c < end_of_piece piece * n
      → MatchesRest (atom (literal state)) (alone piece) c (end_of_piece piece * n) n

-- Where the state holds throughout the piece what had begun goes on, and else nothing does. Nothing
-- has entered.
pub record HoldsOn (longest : Option ℕ) (piece : Piece) (begun : List ZoneBounds)
    (state : StateTree) (lives : Bool) (begun' : List Stretch) : Type 0 where
  pub holds : lives ≡ true → HoldsOver piece state
  pub goes : lives ≡ true
      → Begins longest piece begun None (begun_at (end_of_piece piece) begun')
  pub ends : lives ≡ false → Enters longest piece (atom_mark [] begun) (atom (literal state)) None
      (atom_mark [] (begun_at (end_of_piece piece) begun'))

-- What counts around, and is a duration of the instance, counts in it.
pub record IsReach (longest : Option ℕ) (admitted : ℕ → ℕ → Type 0) (reach : Option ℕ) : Type 0
  where
    pub counts : (d n : ℕ) → LastsUpTo longest d n → admitted d n → LastsUpTo reach d n

-- Of the pairs behind which an instance began all are kept behind which what had begun of it, M,
-- may still end behind the piece. They ended before it.
pub record StillLead (reach : Option ℕ) (piece : Piece) (M : Timeline → Pairs)
    (outer outer' : List ZoneBounds) : Type 0 where
  pub before : (a m n : ℕ) → 0 < n → Held outer' a m n → m < piece.begin * n
  pub less : (a m n : ℕ) → 0 < n → Held outer' a m n → Held outer a m n
  pub more : (next : Timeline) (a m b n : ℕ) → AreLong next.segments → 0 < n → Held outer a m n
      → M next m b n → end_of_piece piece * n ≤ b → LastsUpTo reach (b - m) n → Held outer' a m n

-- The same, or all moments, where only moments enter.
pub record AreLed (whole : Bool) (reach : Option ℕ) (piece : Piece) (M : Timeline → Pairs)
    (outer outer' : List ZoneBounds) : Type 0 where
  pub all : whole ≡ true → outer ≡ instants_of 0 TIME_MAX ∷ []
  pub kept : whole ≡ false → StillLead reach piece M outer outer'

-- The node and all its parts tell what the piece alone makes of them, and have kept what goes on
-- behind it: nothing has entered.
abbrev pub Looked : Piece → MarkTree → Node → Type 0
Looked piece (atom_mark here begun) (Lit around state begun') =
    Tells piece (atom_mark here begun) (tree_of_node (Lit around state begun')) around
    × (here ≡ [])
    × HoldsOn around.longest piece begun (tree_of state) around.lives begun'.items
Looked piece (atom_mark here begun) (Eps around) =
    Tells piece (atom_mark here begun) (tree_of_node (Eps around)) around
    × (here ≡ []) × (begun ≡ [])
Looked piece (atom_mark here begun) (Rise around state) =
    Tells piece (atom_mark here begun) (tree_of_node (Rise around state)) around
    × (here ≡ []) × (begun ≡ [])
Looked piece (atom_mark here begun) (Fall around state) =
    Tells piece (atom_mark here begun) (tree_of_node (Fall around state)) around
    × (here ≡ []) × (begun ≡ [])
Looked piece (atom_mark here begun) (Event around number) =
    Tells piece (atom_mark here begun) (tree_of_node (Event around number)) around
    × (here ≡ []) × (begun ≡ [])
Looked piece (sequence_mark one other) (Seq' around box left box' right) =
    Tells piece (sequence_mark one other) (tree_of_node (Seq' around box left box' right)) around
    × (IsMade around.longest around.whole (around_of left)
    × IsMade around.longest false (around_of right))
    × Looked piece one left × Looked piece other right
Looked piece (alternation_mark one other) (Alt' around box left box' right) =
    Tells piece (alternation_mark one other) (tree_of_node (Alt' around box left box' right)) around
    × (IsMade around.longest around.whole (around_of left)
    × IsMade around.longest around.whole (around_of right))
    × Looked piece one left × Looked piece other right
Looked piece (intersection_one to outer one other)
    (Meet' around reach outer' most box left box' right) =
    Tells piece (intersection_one to outer one other)
    (tree_of_node (Meet' around reach outer' most box left box' right)) around
    × IsReach around.longest AnyDuration reach
    × (IsMade reach true (around_of left) × IsMade reach true (around_of right))
    × AreLed around.whole reach piece
    (λ next. Both (Marked (over piece next) one (tree_of_node left))
    (Marked (over piece next) other (tree_of_node right))) outer outer'.items
    × Looked piece one left × Looked piece other right
Looked piece (repetition_mark here mark) (Star' around box body) =
    Tells piece (repetition_mark here mark) (tree_of_node (Star' around box body)) around
    × (here ≡ []) × IsMade around.longest false (around_of body) × Looked piece mark body
Looked piece (restriction_one to outer mark) (Within' around reach interval outer' most box body) =
    Tells piece (restriction_one to outer mark)
    (tree_of_node (Within' around reach interval outer' most box body)) around
    × IsReach around.longest (LastsWithin interval) reach
    × IsMade reach true (around_of body)
    × AreLed around.whole reach piece
    (λ next. Marked (over piece next) mark (tree_of_node body)) outer outer'.items
    × Looked piece mark body
Looked piece old node = ⊥

-- The node stood at the begin of the piece, was looked at, and is one at its end.
pub record HasLooked (piece : Piece) (before after : Node) : Type 0 where
  pub tree : tree_of_node after ≡ tree_of_node before
  pub made : IsMade (around_of before).longest (around_of before).whole (around_of after)
  pub looked : Looked piece (mark_of_node piece.begin before) after
  pub node : IsNode (end_of_piece piece) after
