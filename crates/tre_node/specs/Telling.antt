-- What lists of zones tell of a piece.
use Rattle.std.specs.Prelude.{◌≡◌, ℕ, ◌-◌, ◌*◌, ◌<◌, ◌↔◌, ℤ, length, get_or, All, List, [], Option, Bool, true, false}
use Rattle.tre_pairs.specs.Pairs.{Pairs, Composed}
use Rattle.tre_pairs.specs.Same.{Same}
use Rattle.tre_zone.specs.Bound.{Meets}
use Rattle.tre_zone.specs.Held.{Held, IsSetOf}
use Rattle.tre_zone.specs.Interval.{IntervalEnds}
use Rattle.tre_zone.specs.Longest.{LastsUpTo}
use Rattle.tre_zone.specs.Zone.{IsInSpan, IsOnward}
use Rattle.tre_zone.specs.ZoneList.{HoldExactly}
use Rattle.tre_zone.specs.declared.zone_bounds.ZoneBounds.{ZoneBounds}
use Rattle.tre_zoneset.specs.ZoneSet.{FoundHolds}
use Rattle.tre_state.specs.StateTree.{StateTree}
use Rattle.tre_syntax.specs.PatternTree.{PatternTree, literal, atom, sequence, alternation, intersection, repetition, restriction}
use Rattle.tre_edges.specs.Piece.{end_of_piece}
use Rattle.tre_edges.specs.declared.piece.Piece.{Piece}
use Rattle.tre_mark.specs.MarkTree.{MarkTree, atom_mark, sequence_mark, alternation_mark, intersection_one, repetition_mark, restriction_one}
use Rattle.tre_node.specs.declared.node.Around.{Around}
use Rattle.tre_node.specs.declared.node.Node.{Node}
use Rattle.tre_node.specs.declared.node.Stretch.{Stretch}
use Rattle.tre_node.specs.IsNode.{IsIdle, IsMade, IsStretch}
use Rattle.tre_node.specs.Looked.{HasLooked, HoldsOn, Tells, Told}
use Rattle.tre_node.specs.NodeTree.{begun_at, led_by, mark_of_node, tree_of_node}
use Rattle.tre_node.specs.Outer.{KeepsInReach}
use Rattle.tre_node.specs.Stretches.{IsBegin}

-- Two of the steps, one after the other, are no more than one.
pub record LeadsNoFurther (steps : List ZoneBounds) : Type 0 where
  pub twice : (a b n : ℕ) → 0 < n → Composed (Held steps) (Held steps) a b n → Held steps a b n

-- These sets were put into the lists. Where the node doesn't live, and where it isn't busy, this is
-- so of its parts.
pub record Puts (inside ended : Pairs) (dull idle : Type 0) (before after : Around) : Type 0 where
  pub made : IsMade before.longest before.whole after
  pub found : IsSetOf after.inside.items inside
  pub told : IsSetOf after.ended.items ended
  pub lives : after.lives ≡ false → dull
  pub busy : after.busy ≡ false → idle

-- As far as it counts, the new list has the pairs of the old one.
pub record AreShortened (longest : Option ℕ) (old new : List ZoneBounds) : Type 0 where
  pub same : Same (LastsUpTo longest) (Held new) (Held old)

-- What was found of an atom was put into the list.
pub record PutsFound (zone : Option ZoneBounds) (before after : Around) : Type 0 where
  pub made : IsMade before.longest before.whole after
  pub found : HoldExactly after.inside.items (FoundHolds zone)
  pub none : after.ended.items ≡ []

-- What begins within the bound lasts longer by the time than what counts.
pub record IsTooLong (longest : Option ℕ) (time : ℕ) (high : ℤ) : Type 0 where
  pub never : (a n : ℕ) → 0 < n → Meets high a 0 n → LastsUpTo longest (time * n - a) n → ⊥

-- So does all that begins in the first stretch.
pub record IsFirstTooOld (longest : Option ℕ) (time : ℕ) (begun : List Stretch) : Type 0 where
  pub some : 0 < length begun
  pub stretch : Stretch
  pub is : stretch ≡ get_or begun 0 stretch
  pub old : IsTooLong longest time stretch.high

-- Stretches went all of whose pairs last longer by the time than what counts.
pub record CutsBegun (longest : Option ℕ) (time : ℕ) (old new : List Stretch) : Type 0 where
  pub same : (a n : ℕ) → 0 < n → LastsUpTo longest (time * n - a) n
      → IsBegin new a n ↔ IsBegin old a n
  pub are : (at : ℕ) → All (IsStretch at) old → All (IsStretch at) new

-- The state of a literal holds throughout the piece, and what had begun goes on as far as it
-- counts.
pub record HoldsBegun (piece : Piece) (before after : Around) (begun begun' : List Stretch) : Type 0
  where
    pub made : IsMade before.longest before.whole after
    pub on : after.lives ≡ true
    pub found : IsSetOf after.inside.items (IsInSpan piece.begin (end_of_piece piece))
    pub told : IsSetOf after.ended.items (Composed (Held (begun_at piece.begin begun))
        (IsOnward piece.begin (end_of_piece piece)))
    pub cut : CutsBegun before.longest (end_of_piece piece) begun begun'
    pub idle : after.busy ≡ false → begun' ≡ []

-- It doesn't, and all of it ends.
pub record EndsBegun (time : ℕ) (before after : Around) (begun begun' : List Stretch) : Type 0
  where
    pub made : IsMade before.longest before.whole after
    pub off : after.lives ≡ false
    pub found : after.inside.items ≡ []
    pub told : after.ended.items ≡ begun_at time begun
    pub none : begun' ≡ []

-- A literal with this around it tells what is to be told, and has kept what goes on.
pub record LiteralLooks (piece : Piece) (state : StateTree) (around around' : Around)
    (begun begun' : List Stretch) : Type 0 where
  pub made : IsMade around.longest around.whole around'
  pub tells : Told around.longest piece (atom_mark [] (begun_at piece.begin begun))
      (atom (literal state)) around'.inside.items around'.ended.items around'.lives
  pub on : HoldsOn around.longest piece (begun_at piece.begin begun) state around'.lives begun'
  pub are : All (IsStretch (end_of_piece piece)) begun'
  pub idle : around'.busy ≡ false → begun' ≡ []

-- A node with this around it tells what is to be told, and its parts were looked at.
pub record LooksAtBoth (piece : Piece) (old : MarkTree) (tree : PatternTree)
    (around around' : Around) (left left' right right' : Node) : Type 0 where
  pub made : IsMade around.longest around.whole around'
  pub tells : Tells piece old tree around'
  pub idle : around'.busy ≡ false → IsIdle left' × IsIdle right'
  pub one : HasLooked piece left left'
  pub other : HasLooked piece right right'

pub record LooksAtBody (piece : Piece) (old : MarkTree) (tree : PatternTree)
    (around around' : Around) (body body' : Node) : Type 0 where
  pub made : IsMade around.longest around.whole around'
  pub tells : Tells piece old tree around'
  pub idle : around'.busy ≡ false → IsIdle body'
  pub inner : HasLooked piece body body'

abbrev pub SequenceLooks : Piece → Around → Around → Node → Node → Node → Node → Type 0
SequenceLooks piece around around' left left' right right' = LooksAtBoth piece
    (sequence_mark (mark_of_node piece.begin left) (mark_of_node piece.begin right))
    (sequence (tree_of_node left) (tree_of_node right)) around around' left left' right right'

abbrev pub AlternationLooks : Piece → Around → Around → Node → Node → Node → Node → Type 0
AlternationLooks piece around around' left left' right right' = LooksAtBoth piece
    (alternation_mark (mark_of_node piece.begin left) (mark_of_node piece.begin right))
    (alternation (tree_of_node left) (tree_of_node right)) around around' left left' right right'

abbrev pub RepetitionLooks : Piece → Around → Around → Node → Node → Type 0
RepetitionLooks piece around around' body body' = LooksAtBody piece
    (repetition_mark [] (mark_of_node piece.begin body)) (repetition (tree_of_node body)) around
    around' body body'

-- A restriction with this around it tells what is to be told, its body was looked at, and of the
-- pairs behind which it began those are kept that may still count.
pub record RestrictionLooks (piece : Piece) (reach : Option ℕ) (interval : IntervalEnds)
    (around around' : Around) (outer outer' : List ZoneBounds) (body body' : Node) : Type 0 where
  pub looks : LooksAtBody piece
      (restriction_one 0 (led_by around.whole outer) (mark_of_node piece.begin body))
      (restriction (tree_of_node body) interval) around around' body body'
  pub kept : KeepsInReach reach (end_of_piece piece) outer outer'

-- The same of an intersection.
pub record IntersectionLooks (piece : Piece) (reach : Option ℕ) (around around' : Around)
    (outer outer' : List ZoneBounds) (left left' right right' : Node) : Type 0 where
  pub looks : LooksAtBoth piece
      (intersection_one 0 (led_by around.whole outer) (mark_of_node piece.begin left)
      (mark_of_node piece.begin right))
      (intersection (tree_of_node left) (tree_of_node right)) around around' left left' right right'
  pub kept : KeepsInReach reach (end_of_piece piece) outer outer'

-- These sets were put into the lists of an instance: behind the pairs that led to it, or where all
-- moments do, as they are.
abbrev pub PutsBehind : Bool → List ZoneBounds → Pairs → Pairs → Type 0 → Type 0 → Around → Around
    → Type 0
PutsBehind true outer inside ended dull idle before after =
    Puts inside ended dull idle before after
PutsBehind false outer inside ended dull idle before after =
    Puts inside (Composed (Held outer) ended) dull idle before after
