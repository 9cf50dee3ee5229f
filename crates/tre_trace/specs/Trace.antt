-- Traces: lists of constant segments (FORMATS 2014, section 2: signals of finite variability).
use Rattle.std.specs.Prelude.{◌≡◌, ℕ, ◌+◌, ◌≤◌, ◌<◌, List, [], ◌∷◌}
use Rattle.tre_pairs.specs.declared.TheConstants.{TIME_MAX}
use Rattle.tre_trace.specs.declared.segment.Segment.{Segment}
use Rattle.tre_trace.specs.declared.fault.PushFault.{PushFault}
use Rattle.tre_trace.specs.declared.fault.PushFault.TheVariants.{Zero, TooLate, Memory}

-- A trace as it is seen: its segments in the order of time, of which the first begins at 0, and the
-- events at its end. Bit i of the events says whether event i happens.
pub record Timeline : Type 0 where
  pub segments : List Segment
  pub last : ℕ

abbrev pub timeline_of : List Segment → ℕ → Timeline
timeline_of segments last = record { segments = segments; last = last }

abbrev pub quiet : List Segment → Timeline
quiet segments = timeline_of segments 0

-- when segments end of which the first begins at `start`
abbrev pub end_of : ℕ → List Segment → ℕ
end_of start [] = start
end_of start (segment ∷ rest) = end_of (start + segment.len) rest

abbrev pub AreLong : List Segment → Type 0
AreLong [] = Unit {0}
AreLong (segment ∷ rest) = (1 ≤ segment.len) × AreLong rest

-- the segments are a trace: each is at least one tick long, and the last ends at TIME_MAX or
-- earlier
pub record IsTrace (segments : List Segment) : Type 0 where
  pub long : AreLong segments
  pub in_time : end_of 0 segments ≤ TIME_MAX

-- the segment can stand behind these segments
pub record Fits (segments : List Segment) (segment : Segment) : Type 0 where
  pub long : 1 ≤ segment.len
  pub in_time : end_of 0 segments + segment.len ≤ TIME_MAX

-- why a segment was refused behind these segments; want of memory says that it would have fitted
abbrev pub IsRefusedFor : List Segment → Segment → PushFault → Type 0
IsRefusedFor segments segment Zero = segment.len ≡ 0
IsRefusedFor segments segment (TooLate end) = (1 ≤ segment.len) × (end ≡ end_of 0 segments +
    segment.len) × (TIME_MAX < end)
IsRefusedFor segments segment Memory = Fits segments segment
