-- Rests of traces, and what each atom matches over one.
use Rattle.std.specs.Int.{bit_at}
use Rattle.std.specs.Prelude.{◌≡◌, ℕ, ◌+◌, ◌*◌, ◌≤◌, ◌⊎◌, Option, None, Some, List, [], ◌∷◌, ◌++◌, IsSomeAnd}
use Rattle.tre_pairs.specs.Pairs.{Pairs}
use Rattle.tre_state.specs.StateTree.{HoldsOn}
use Rattle.tre_trace.specs.declared.segment.Segment.{Segment}
use Rattle.tre_trace.specs.Literal.{LiteralMatches}
use Rattle.tre_trace.specs.Trace.{end_of, Timeline, timeline_of}
use Rattle.tre_syntax.specs.PatternTree.{Atom, empty, literal, rise, fall, event}

-- What is still to come of a trace, from the time `start` on: the valuation that held before it, if
-- there was one, the segments, the first of which begins at `start`, and the events at its end.
pub record Rest : Type 0 where
  pub start : ℕ
  pub before : Option ℕ
  pub segments : List Segment
  pub last : ℕ

abbrev pub rest_of : ℕ → Option ℕ → Timeline → Rest
rest_of start before next = record {
  start = start;
  before = before;
  segments = next.segments;
  last = next.last;
}

-- A whole trace: it starts at 0, and nothing was before.
abbrev pub whole : Timeline → Rest
whole trace = rest_of 0 None trace

-- These segments, and then what is still to come behind them.
abbrev pub prefixed : List Segment → Timeline → Timeline
prefixed segments next = timeline_of (segments ++ next.segments) next.last

-- At the time t one segment begins and another ends, P holds of the valuation of the one that ends
-- and Q of that which begins. The first segment begins at `start`, and `before` is what held until
-- then.
abbrev pub HasEdge : (ℕ → Type 0) → (ℕ → Type 0) → ℕ → Option ℕ → List Segment → ℕ → Type 0
HasEdge P Q start before [] t = ⊥
HasEdge P Q start before (segment ∷ rest) t =
    ((t ≡ start) × IsSomeAnd before P × Q segment.val) ⊎ HasEdge P Q (start + segment.len)
    (Some segment.val) rest t

-- At the time t the event of this number happens: t is the begin of a segment among whose events it
-- is, or the end, where it is among the last events. The first segment begins at `start`.
abbrev pub HasEvent : ℕ → ℕ → List Segment → ℕ → ℕ → Type 0
HasEvent number start [] last t = (t ≡ start) × (bit_at last number ≡ 1)
HasEvent number start (segment ∷ rest) last t =
    ((t ≡ start) × (bit_at segment.ev number ≡ 1)) ⊎ HasEvent number (start + segment.len) rest last
    t

-- An instant: a/n and b/n are one time, a whole number of ticks, and one of those that M says.
pub record InstantMatches (M : ℕ → Type 0) (a b n : ℕ) : Type 0 where
  pub time : ℕ
  pub begin : a ≡ time * n
  pub end : b ≡ time * n
  pub there : M time

abbrev pub EdgeMatches : (ℕ → Type 0) → (ℕ → Type 0) → Rest → Pairs
EdgeMatches P Q rest = InstantMatches (HasEdge P Q rest.start rest.before rest.segments)

abbrev pub EventMatches : ℕ → Rest → Pairs
EventMatches number rest = InstantMatches (HasEvent number rest.start rest.segments rest.last)

-- The empty stretch: a/n and b/n are one time, and it lies within the rest.
pub record EmptyMatches (rest : Rest) (a b n : ℕ) : Type 0 where
  pub begin : rest.start * n ≤ a
  pub same : a ≡ b
  pub end : b ≤ end_of rest.start rest.segments * n

-- What an atom matches over a rest (FORMATS 2014, section 2; that literals have open ends, and that
-- an edge needs a segment on either side, are this project's choices, and so are events). A rise is
-- from false to true, a fall from true to false.
abbrev pub AtomMatches : Rest → Atom → Pairs
AtomMatches rest empty = EmptyMatches rest
AtomMatches rest (literal state) = LiteralMatches (HoldsOn state) rest.start rest.segments
AtomMatches rest (rise state) =
    EdgeMatches (λ valuation. ¬ HoldsOn state valuation) (HoldsOn state) rest
AtomMatches rest (fall state) =
    EdgeMatches (HoldsOn state) (λ valuation. ¬ HoldsOn state valuation) rest
AtomMatches rest (event number) = EventMatches number rest
