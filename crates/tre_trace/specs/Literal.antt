-- Where a property of valuations holds throughout a stretch of a trace.
use Rattle.std.specs.Prelude.{ℕ, ◌+◌, ◌*◌, ◌≤◌, ◌<◌, List, [], ◌∷◌}
use Rattle.tre_pairs.specs.Pairs.{Pairs}
use Rattle.tre_trace.specs.declared.segment.Segment.{Segment}
use Rattle.tre_trace.specs.Trace.{end_of}

-- The property holds of the valuation of each segment that has a moment strictly between a/n and
-- b/n.
-- The first segment begins at `start`. What the value is at a moment of switching never matters.
abbrev pub HoldsBetween : (ℕ → Type 0) → ℕ → List Segment → Pairs
HoldsBetween P start [] a b n = Unit {0}
HoldsBetween P start (segment ∷ rest) a b n =
    (start * n < b → a < (start + segment.len) * n → P segment.val) × HoldsBetween P
    (start + segment.len) rest a b n

-- A literal: some time passes between a/n and b/n, all of it within the segments, and the property
-- holds throughout (FORMATS 2014, section 2; the open ends are this project's choice).
pub record LiteralMatches (P : ℕ → Type 0) (start : ℕ) (segments : List Segment) (a b n : ℕ) : Type
    0 where
  pub begin : start * n ≤ a
  pub some_time : a < b
  pub end : b ≤ end_of start segments * n
  pub throughout : HoldsBetween P start segments a b n
