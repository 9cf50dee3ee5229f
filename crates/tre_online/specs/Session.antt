-- Sessions: what one stands for, and what it tells of a segment and of the end.
use Rattle.std.specs.Prelude.{◌≡◌, ℕ, ◌*◌, ◌<◌, ◌≤◌, ◌↔◌, Option, None, Contains, List, [], ◌∷◌, ◌++◌}
use Rattle.tre_pairs.specs.Pairs.{Pairs, Either}
use Rattle.tre_mark.specs.MarkTree.{MarkTree}
use Rattle.tre_mark.specs.Marked.{Marked}
use Rattle.tre_node.specs.declared.node.Node.{Node}
use Rattle.tre_node.specs.NodeTree.{mark_of_node, tree_of_node}
use Rattle.tre_syntax.specs.Cut.{CutRest, last_of, back_of}
use Rattle.tre_syntax.specs.Rest.{prefixed}
use Rattle.tre_syntax.specs.Meaning.{Matches}
use Rattle.tre_syntax.specs.Pattern.{pattern_tree}
use Rattle.tre_syntax.specs.PatternTree.{PatternTree}
use Rattle.tre_syntax.specs.declared.pattern.Pattern.{Pattern}
use Rattle.tre_trace.specs.Trace.{Timeline, timeline_of, quiet, AreLong, end_of, IsTrace}
use Rattle.tre_trace.specs.declared.segment.Segment.{Segment}
use Rattle.tre_zone.specs.ZoneList.{SetHolds, IsApart, AreTight, HoldExactly}
use Rattle.tre_zone.specs.declared.zone_bounds.ZoneBounds.{ZoneBounds}
use Rattle.tre_online.specs.Told.{WasTold}
use Rattle.tre_online.specs.declared.session.Session.{Session}

-- The pattern that the session matches.
abbrev pub pattern_of : Session → Pattern
pattern_of session = session.pattern

-- When its trace ends so far, in ticks.
abbrev pub at_of : Session → ℕ
at_of session = session.progress.at

-- The last valuation: None before the first segment.
abbrev pub held_of : Session → Option ℕ
held_of session = session.progress.last

-- The zones that it told of its last segment.
abbrev pub ended_of : Session → List ZoneBounds
ended_of session = session.progress.told.items

-- The pattern under way.
abbrev pub node_of : Session → Node
node_of session = session.progress.node

-- How far the matches that may go on have come.
abbrev pub kept_of : Session → MarkTree
kept_of session = mark_of_node (at_of session) (node_of session)

-- A trace that is cut where its first segments end.
abbrev pub cut_after : List Segment → Timeline → CutRest
cut_after segments next =
    record { start = 0; before = None; front = segments; back = next }

-- R, from before the cut to the cut or behind it.
pub record Begun (cut : ℕ) (R : Pairs) (a b n : ℕ) : Type 0 where
  pub related : R a b n
  pub begin : a < cut * n
  pub end : cut * n ≤ b

-- The matches of a trace that begin before its first segments end, and end then or later.
abbrev pub MatchesBegun : PatternTree → List Segment → Timeline → Pairs
MatchesBegun tree segments next =
    Begun (end_of 0 segments) (Matches tree (prefixed segments next))

-- The mark stands for the matches that go on where the segments end, whatever comes next.
pub record AwaitsMatches (mark : MarkTree) (tree : PatternTree) (segments : List Segment) : Type 0
  where
    pub exact : (next : Timeline) (a b n : ℕ) → AreLong next.segments → 0 < n
        → Marked (back_of (cut_after segments next)) mark tree a b n
        ↔ MatchesBegun tree segments next a b n

-- The session has read these segments. It keeps when they end, the last valuation and what it told
-- last, which are matches; and its mark means, whatever comes next, the matches that begin before
-- they end and end no earlier.
pub record StandsFor (session : Session) (segments : List Segment) : Type 0 where
  pub trace : IsTrace segments
  pub at : at_of session ≡ end_of 0 segments
  pub last : held_of session ≡ last_of None segments
  pub tree : tree_of_node (node_of session) ≡ pattern_tree (pattern_of session)
  pub awaits : AwaitsMatches (kept_of session) (pattern_tree (pattern_of session)) segments
  pub ended : (a b n : ℕ) → 0 < n → a ≤ b → SetHolds (ended_of session) a b n
      → Matches (pattern_tree (pattern_of session)) (quiet segments) a b n
  pub unstarted : segments ≡ [] → ended_of session ≡ []

-- What is told of a segment that comes behind these segments, where `earlier` was told last: a set
-- of zones, none of which is included in another or in one that was told last. Its pairs end where
-- the segment begins, or later, and are with the matches before just the matches now. Of the first
-- segment it tells all matches.
pub record TellsNew (tree : PatternTree) (segments : List Segment) (segment : Segment)
    (earlier told : List ZoneBounds) : Type 0 where
  pub apart : IsApart told
  pub tight : AreTight told
  pub all : (a b n : ℕ) → 0 < n → a ≤ b
      → Either (SetHolds told) (Matches tree (quiet segments)) a b n
      ↔ Matches tree (quiet (segments ++ segment ∷ [])) a b n
  pub first : segments ≡ [] → HoldExactly told (Matches tree (quiet (segment ∷ [])))
  pub late : (a b n : ℕ) → 0 < n → a ≤ b → SetHolds told a b n → end_of 0 segments * n ≤ b
  pub new : (zone : ZoneBounds) → Contains told zone → WasTold earlier zone → ⊥

-- What is told where these events happen at the end of these segments, where `earlier` was told
-- last: a set of zones, none of which is included in another or in one that was told last. Its
-- pairs end there, and are with the matches before just the matches of the trace with these events.
-- Where nothing happens it is empty; where no segment came and something happens, it is all
-- matches.
pub record TellsLast (tree : PatternTree) (segments : List Segment) (events : ℕ)
    (earlier told : List ZoneBounds) : Type 0 where
  pub none : events ≡ 0 → told ≡ []
  pub apart : IsApart told
  pub tight : AreTight told
  pub all : (a b n : ℕ) → 0 < n → a ≤ b
      → Either (SetHolds told) (Matches tree (quiet segments)) a b n
      ↔ Matches tree (timeline_of segments events) a b n
  pub first : segments ≡ [] → (events ≡ 0 → ⊥)
      → HoldExactly told (Matches tree (timeline_of [] events))
  pub ends : (a b n : ℕ) → 0 < n → a ≤ b → SetHolds told a b n → b ≡ end_of 0 segments * n
  pub new : (zone : ZoneBounds) → Contains told zone → WasTold earlier zone → ⊥
