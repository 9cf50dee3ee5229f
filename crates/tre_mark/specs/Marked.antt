-- What a mark means over a rest of a trace, and when it is well.
use Rattle.std.specs.Prelude.{◌≡◌, ℕ, ◌+◌, ◌-◌, ◌*◌, ◌<◌, ◌≤◌, ◌↔◌, All, List, [], ◌∷◌, MatchOption, Option}
use Rattle.tre_pairs.specs.Cuts.{IsMoment, JoinedAt}
use Rattle.tre_pairs.specs.Pairs.{Pairs, Composed, Either, Both, Lasting}
use Rattle.tre_zone.specs.Held.{Held, EndAt, EndBy, IsLatest}
use Rattle.tre_syntax.specs.Cut.{CutRest, uncut, back_of, MatchesAcross}
use Rattle.tre_syntax.specs.Meaning.{MatchesRest}
use Rattle.tre_syntax.specs.PatternTree.{Atom, PatternTree, empty, literal, rise, fall, event, atom, sequence, alternation, intersection, repetition, restriction}
use Rattle.tre_syntax.specs.Rest.{Rest, rest_of}
use Rattle.tre_trace.specs.Trace.{Timeline, AreLong}
use Rattle.tre_trace.specs.declared.segment.Segment.{Segment}
use Rattle.tre_zone.specs.Interval.{IntervalEnds, LastsWithin}
use Rattle.tre_zone.specs.Longest.{LastsUpTo}
use Rattle.tre_zone.specs.declared.zone_bounds.ZoneBounds.{ZoneBounds}
use Rattle.tre_mark.specs.MarkTree.{MarkTree, atom_mark, sequence_mark, alternation_mark, repetition_mark, intersection_none, intersection_one, restriction_none, restriction_one}

-- How an atom that has begun earlier goes on where the rest starts: only a literal does. It ends
-- there, or holds on.
abbrev pub GoesOn : Rest → Atom → Pairs
GoesOn rest empty a b n = ⊥
GoesOn rest (literal state) a b n =
    Either (IsMoment rest.start) (MatchesRest (atom (literal state)) rest) a b n
GoesOn rest (rise state) a b n = ⊥
GoesOn rest (fall state) a b n = ⊥
GoesOn rest (event number) a b n = ⊥

-- The pairs that a mark of the expression stands for, where this rest of a trace comes.
abbrev pub Marked : Rest → MarkTree → PatternTree → Pairs
Marked rest (atom_mark here begun) (atom x) a b n =
    Either (JoinedAt rest.start (Held here) (MatchesRest (atom x) rest))
    (JoinedAt rest.start (Held begun) (GoesOn rest x)) a b n
Marked rest (sequence_mark one other) (sequence left right) a b n =
    Either (Composed (Marked rest one left) (MatchesRest right rest))
    (Marked rest other right) a b n
Marked rest (alternation_mark one other) (alternation left right) a b n =
    Either (Marked rest one left) (Marked rest other right) a b n
Marked rest (repetition_mark here body) (repetition tree) a b n =
    Either (JoinedAt rest.start (Held here) (MatchesRest (repetition tree) rest))
    (Composed (Marked rest body tree) (MatchesRest (repetition tree) rest)) a b n
Marked rest (intersection_one to outer one other) (intersection left right) a b n =
    Composed (Held outer) (Both (Marked rest one left) (Marked rest other right)) a b n
Marked rest (restriction_one to outer body) (restriction tree ends) a b n =
    Composed (Held outer) (Lasting (LastsWithin ends) (Marked rest body tree)) a b n
Marked rest mark tree a b n = ⊥

-- What was read of a trace from the time `start` on, and what held before that.
pub record Since : Type 0 where
  pub start : ℕ
  pub before : Option ℕ
  pub front : List Segment

abbrev pub since : ℕ → Option ℕ → List Segment → Since
since start before front = record { start = start; before = before; front = front }

-- The rest of the trace from there on, cut where what was read ends; what comes next is behind it.
abbrev pub cut_since : Since → Timeline → CutRest
cut_since read next = record {
  start = read.start;
  before = read.before;
  front = read.front;
  back = next;
}

-- The mark serves the pairs of `outer` and those that come later and end at the start or then. Of
-- what begins at the start or later it stands for matches alone, and where a pair of `outer` ends
-- there, for all of them that last as long as is admitted.
pub record IsOpen (read : Since) (admitted : ℕ → ℕ → Type 0) (outer : List ZoneBounds)
    (mark : MarkTree) (tree : PatternTree) : Type 0 where
  pub sound : (next : Timeline) (a b n : ℕ) → AreLong next.segments → 0 < n
      → read.start * n ≤ a → Marked (back_of (cut_since read next)) mark tree a b n
      → MatchesRest tree (uncut (cut_since read next)) a b n
  pub complete : (next : Timeline) (a m b n : ℕ) → AreLong next.segments → 0 < n
      → Held outer a m n → read.start * n ≤ m → admitted (b - m) n
      → MatchesAcross tree (cut_since read next) m b n
      → Marked (back_of (cut_since read next)) mark tree m b n

-- Every duration.
abbrev pub AnyDuration : ℕ → ℕ → Type 0
AnyDuration d n = Unit {0}

-- Each intersection and each restriction that has begun can take in what begins later.
abbrev pub CanTakeIn : Since → MarkTree → PatternTree → Type 0
CanTakeIn read (sequence_mark one other) (sequence left right) =
    CanTakeIn read one left × CanTakeIn read other right
CanTakeIn read (alternation_mark one other) (alternation left right) =
    CanTakeIn read one left × CanTakeIn read other right
CanTakeIn read (repetition_mark here body) (repetition tree) = CanTakeIn read body tree
CanTakeIn read (intersection_one to outer one other) (intersection left right) =
    IsOpen read AnyDuration outer one left × IsOpen read AnyDuration outer other right
    × CanTakeIn read one left × CanTakeIn read other right
CanTakeIn read (restriction_one to outer body) (restriction tree ends) =
    IsOpen read (LastsWithin ends) outer body tree × CanTakeIn read body tree
CanTakeIn read mark tree = Unit {0}

-- Each pair of the set ends at one of the two times or between them.
pub record EndBetween (low high : ℕ) (zones : List ZoneBounds) : Type 0 where
  pub begin : (a b n : ℕ) → 0 < n → Held zones a b n → low * n ≤ b
  pub end : (a b n : ℕ) → 0 < n → Held zones a b n → b ≤ high * n

-- There are pairs in the set, and `to` is the first tick by which each of them has ended: that is
-- not after the time.
pub record IsEntered (time to : ℕ) (outer : List ZoneBounds) : Type 0 where
  pub some : outer ≡ [] → ⊥
  pub past : to ≤ time
  pub latest : IsLatest to outer

-- What begins at `to` may still be in the interval where it ends at the time or later.
abbrev pub IsInReach : ℕ → ℕ → IntervalEnds → Type 0
IsInReach time to ends = MatchOption ends.high (Unit {0}) (λ high. time ≤ to + high)

-- What begins behind the last pairs of the zone may still be in the interval where it ends at the
-- time or later.
abbrev pub IsRecent : ℕ → IntervalEnds → ZoneBounds → Type 0
IsRecent time ends zone = (bound : ℕ) → EndBy bound (zone ∷ []) → IsInReach time bound ends

-- Which pairs an atom keeps as begun: those of a literal end at the time, and others have none.
abbrev pub IsBegun : ℕ → List ZoneBounds → Atom → Type 0
IsBegun time begun empty = begun ≡ []
IsBegun time begun (literal state) = EndAt time begun
IsBegun time begun (rise state) = begun ≡ []
IsBegun time begun (fall state) = begun ≡ []
IsBegun time begun (event number) = begun ≡ []

-- Nothing is left of the mark: each of its sets is empty, and no intersection and no restriction in
-- it has begun.
abbrev pub IsBare : MarkTree → Type 0
IsBare (atom_mark here begun) = (here ≡ []) × (begun ≡ [])
IsBare (sequence_mark one other) = IsBare one × IsBare other
IsBare (alternation_mark one other) = IsBare one × IsBare other
IsBare (repetition_mark here body) = (here ≡ []) × IsBare body
IsBare intersection_none = Unit {0}
IsBare (intersection_one to outer one other) = ⊥
IsBare restriction_none = Unit {0}
IsBare (restriction_one to outer body) = ⊥

-- Each pair of the zones lasts up to the longest duration.
pub record LastUpTo (longest : Option ℕ) (zones : List ZoneBounds) : Type 0 where
  pub each : (a b n : ℕ) → 0 < n → Held zones a b n → LastsUpTo longest (b - a) n

-- Each pair of the zone lasts longer.
abbrev pub IsLong : Option ℕ → ZoneBounds → Type 0
IsLong longest zone = (a b n : ℕ) → 0 < n → Held (zone ∷ []) a b n → LastsUpTo longest (b - a) n → ⊥

-- No pair that is here or has begun lasts longer than that, and an intersection or a restriction
-- inside, whose own interval says what it keeps, began behind no zone that does.
abbrev pub IsShort : Option ℕ → MarkTree → Type 0
IsShort longest (atom_mark here begun) = LastUpTo longest here × LastUpTo longest begun
IsShort longest (sequence_mark one other) = IsShort longest one × IsShort longest other
IsShort longest (alternation_mark one other) = IsShort longest one × IsShort longest other
IsShort longest (repetition_mark here body) = LastUpTo longest here × IsShort longest body
IsShort longest intersection_none = Unit {0}
IsShort longest (intersection_one to outer one other) = All (λ zone. IsLong longest zone → ⊥) outer
IsShort longest restriction_none = Unit {0}
IsShort longest (restriction_one to outer body) = All (λ zone. IsLong longest zone → ⊥) outer

-- The mark has the shape of the expression, and each pair that is here or has begun ends at the
-- time. Each intersection and each restriction that has begun was entered up to then, and has
-- something left of each of its marks. Behind no zone of a restriction everything is too old, and
-- nothing in it lasts longer than its upper end.
abbrev pub IsWell : ℕ → MarkTree → PatternTree → Type 0
IsWell time (atom_mark here begun) (atom x) = EndAt time here × IsBegun time begun x
IsWell time (sequence_mark one other) (sequence left right) =
    IsWell time one left × IsWell time other right
IsWell time (alternation_mark one other) (alternation left right) =
    IsWell time one left × IsWell time other right
IsWell time (repetition_mark here body) (repetition tree) = EndAt time here × IsWell time body tree
IsWell time intersection_none (intersection left right) = Unit {0}
IsWell time (intersection_one to outer one other) (intersection left right) =
    IsEntered time to outer × IsWell time one left × IsWell time other right
    × (IsBare one → ⊥) × (IsBare other → ⊥)
IsWell time restriction_none (restriction tree ends) = Unit {0}
IsWell time (restriction_one to outer body) (restriction tree ends) =
    IsEntered time to outer × All (IsRecent time ends) outer × IsWell time body tree
    × (IsBare body → ⊥) × IsShort ends.high body
IsWell time mark tree = ⊥

-- The mark is one of the expression at the time.
pub record IsWellAt (time : ℕ) (mark : MarkTree) (tree : PatternTree) : Type 0 where
  pub well : IsWell time mark tree

-- The mark stands for no pair, whatever the expression and whatever comes.
pub record IsNothing (mark : MarkTree) : Type 0 where
  pub never : (tree : PatternTree) (rest : Rest) (a b n : ℕ) → Marked rest mark tree a b n → ⊥

-- The mark is one of the expression at every time, and nothing has begun.
pub record IsUnbegun (mark : MarkTree) (tree : PatternTree) : Type 0 where
  pub bare : IsBare mark
  pub nothing : IsNothing mark
  pub well : (time : ℕ) → IsWellAt time mark tree

-- What has begun was entered at the time itself, behind pairs that end there.
abbrev pub IsEnteredAt : ℕ → MarkTree → Type 0
IsEnteredAt time (atom_mark here begun) = Unit {0}
IsEnteredAt time (sequence_mark one other) = IsEnteredAt time one × IsEnteredAt time other
IsEnteredAt time (alternation_mark one other) = IsEnteredAt time one × IsEnteredAt time other
IsEnteredAt time (repetition_mark here body) = IsEnteredAt time body
IsEnteredAt time intersection_none = Unit {0}
IsEnteredAt time (intersection_one to outer one other) =
    (to ≡ time) × EndAt time outer × IsEnteredAt time one × IsEnteredAt time other
IsEnteredAt time restriction_none = Unit {0}
IsEnteredAt time (restriction_one to outer body) =
    (to ≡ time) × EndAt time outer × IsEnteredAt time body

-- The mark stands for a pair of the set up to the time, and then a match of what comes, and is well
-- there, entered at that time. Where there are pairs, something is left of it. It can take in what
-- begins later, whatever held before, and lasts no longer than the pairs of the set do.
pub record IsStart (time : ℕ) (zones : List ZoneBounds) (mark : MarkTree) (tree : PatternTree)
    : Type 0 where
  pub pairs : (before : Option ℕ) (next : Timeline) (a b n : ℕ) → 0 < n
      → Marked (rest_of time before next) mark tree a b n
      ↔ JoinedAt time (Held zones) (MatchesRest tree (rest_of time before next)) a b n
  pub well : IsWellAt time mark tree
  pub entered : IsEnteredAt time mark
  pub some : (zones ≡ [] → ⊥) → IsBare mark → ⊥
  pub takes : (before : Option ℕ) → CanTakeIn (since time before []) mark tree
  pub short : (longest : Option ℕ) → LastUpTo longest zones → IsShort longest mark
