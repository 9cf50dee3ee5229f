-- Edges, events and literals over a trace, said of its segments wherever they stand, without going
-- through them.
use Rattle.std.specs.Int.{bit_at}
use Rattle.std.specs.Prelude.{◌≡◌, ℕ, ◌+◌, ◌*◌, ◌≤◌, ◌<◌, ◌⊎◌, List, ◌∷◌, ◌++◌}
use Rattle.tre_trace.specs.declared.segment.Segment.{Segment}
use Rattle.tre_trace.specs.Trace.{end_of, Timeline}

-- At the time t one segment ends and its neighbour begins, P holds of the valuation of the one and
-- Q of that of the other. The first of all segments begins at `start`.
pub record MeetAt (P Q : ℕ → Type 0) (start : ℕ) (segments : List Segment) (t : ℕ) : Type 0 where
  pub front : List Segment
  pub one : Segment
  pub other : Segment
  pub back : List Segment
  pub parts : segments ≡ front ++ one ∷ other ∷ back
  pub time : t ≡ end_of start front + one.len
  pub ends : P one.val
  pub begins : Q other.val

-- a/n and b/n are one time, at which two neighbouring segments of a trace meet, P holds of the one
-- that ends and Q of the one that begins.
pub record IsBetweenNeighbours (P Q : ℕ → Type 0) (segments : List Segment)
    (a b n : ℕ) : Type 0 where
  pub time : ℕ
  pub begin : a ≡ time * n
  pub end : b ≡ time * n
  pub meet : MeetAt P Q 0 segments time

-- A segment among whose events is the one of this number begins at the time t. The first of all
-- segments begins at `start`.
pub record HasEventAt (number start : ℕ) (segments : List Segment) (t : ℕ) : Type 0 where
  pub front : List Segment
  pub segment : Segment
  pub back : List Segment
  pub parts : segments ≡ front ++ segment ∷ back
  pub time : t ≡ end_of start front
  pub happens : bit_at segment.ev number ≡ 1

-- a/n and b/n are one time, at which a segment of the trace begins with the event of this number,
-- or at which the trace ends and the event is among the last.
pub record IsWhereHappens (number : ℕ) (trace : Timeline) (a b n : ℕ) : Type 0 where
  pub time : ℕ
  pub begin : a ≡ time * n
  pub end : b ≡ time * n
  pub there : HasEventAt number 0 trace.segments time
      ⊎ ((time ≡ end_of 0 trace.segments) × (bit_at trace.last number ≡ 1))

-- Some time passes between a/n and b/n, all of it within the trace, and P holds of each segment
-- that has a moment strictly between them, whatever segments stand in front of it and behind it.
pub record IsThroughout (P : ℕ → Type 0) (segments : List Segment) (a b n : ℕ) : Type 0 where
  pub some_time : a < b
  pub end : b ≤ end_of 0 segments * n
  pub each : (front : List Segment) (segment : Segment) (back : List Segment)
      → segments ≡ front ++ segment ∷ back
      → end_of 0 front * n < b → a < (end_of 0 front + segment.len) * n → P segment.val
