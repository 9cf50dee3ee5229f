-- A rest of a trace that is cut in two, and the matches before the cut, behind it and across it.
use Rattle.std.specs.Prelude.{ℕ, Option, Some, List, [], ◌∷◌}
use Rattle.tre_pairs.specs.Cuts.{Crossing}
use Rattle.tre_pairs.specs.Pairs.{Pairs}
use Rattle.tre_trace.specs.declared.segment.Segment.{Segment}
use Rattle.tre_trace.specs.Trace.{end_of, AreLong, Timeline, quiet}
use Rattle.tre_syntax.specs.Meaning.{MatchesRest}
use Rattle.tre_syntax.specs.PatternTree.{PatternTree}
use Rattle.tre_syntax.specs.Rest.{Rest, rest_of, prefixed}

-- The segments of the rest up to the cut, and what comes behind it. The events at the cut are among
-- those of the back.
pub record CutRest : Type 0 where
  pub start : ℕ
  pub before : Option ℕ
  pub front : List Segment
  pub back : Timeline

-- Each segment is at least a tick long.
pub record HasLongParts (cut : CutRest) : Type 0 where
  pub front : AreLong cut.front
  pub back : AreLong cut.back.segments

-- The valuation that holds last, where `before` held before the segments.
abbrev pub last_of : Option ℕ → List Segment → Option ℕ
last_of before [] = before
last_of before (segment ∷ rest) = last_of (Some segment.val) rest

-- When the cut is: as the front ends.
abbrev pub time_of : CutRest → ℕ
time_of cut = end_of cut.start cut.front

-- What is cut, the front, and the back, before which the last valuation of the front holds.
abbrev pub uncut : CutRest → Rest
uncut cut = rest_of cut.start cut.before (prefixed cut.front cut.back)

abbrev pub front_of : CutRest → Rest
front_of cut = rest_of cut.start cut.before (quiet cut.front)

abbrev pub back_of : CutRest → Rest
back_of cut = rest_of (time_of cut) (last_of cut.before cut.front) cut.back

-- The matches over the front, over the back, and those over the whole that begin no later than the
-- cut and end no earlier.
abbrev pub MatchesBefore : PatternTree → CutRest → Pairs
MatchesBefore tree cut = MatchesRest tree (front_of cut)

abbrev pub MatchesBehind : PatternTree → CutRest → Pairs
MatchesBehind tree cut = MatchesRest tree (back_of cut)

abbrev pub MatchesAcross : PatternTree → CutRest → Pairs
MatchesAcross tree cut = Crossing (time_of cut) (MatchesRest tree (uncut cut))
