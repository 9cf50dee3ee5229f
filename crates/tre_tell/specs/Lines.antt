-- Lines as they are printed, each of three ranges, and the pairs of times that they hold.
use Rattle.std.specs.Prelude.{◌≡◌, ◌↔◌, ℕ, suc, ◌+◌, ◌<◌, List, [], ◌∷◌, ◌++◌, length, take, get_or, flat_map, map, codes, All}
use Rattle.tre_decimal.specs.Decimal.{number_text}
use Rattle.tre_show.specs.Line.{line_text}
use Rattle.tre_show.specs.Shown.{Shown, LinesHold}
use Rattle.tre_syntax.specs.Meaning.{Matches}
use Rattle.tre_trace.specs.Trace.{Timeline, quiet, end_of}
use Rattle.tre_trace.specs.declared.segment.Segment.{Segment}
use Rattle.tre_tell.specs.Sought.{Sought}

-- The text of the lines, each behind the label.
abbrev pub lines_printed : ℕ → List ℕ → List Shown → List ℕ
lines_printed scale label lines =
    flat_map (λ line. label ++ line_text scale line.begin line.end line.duration) lines

-- What is printed of a pattern over a trace: the lines of each block, and those that the end
-- completes.
pub record Printed : Type 0 where
  pub pattern : Sought
  pub trace : Timeline
  pub blocks : List (List Shown)
  pub closing : List Shown

abbrev pub lines_in_blocks : List (List Shown) → List Shown
lines_in_blocks blocks = flat_map (λ lines. lines) blocks

-- The lines up to each block hold exactly the matches over the trace up to its segment's end.
pub record HoldSoFar (printed : Printed) : Type 0 where
  pub count : length printed.blocks ≡ length printed.trace.segments
  pub exact : (i a b n : ℕ) → i < length printed.trace.segments → 0 < n
      → LinesHold (lines_in_blocks (take (suc i) printed.blocks)) a b n
      ↔ Matches printed.pattern.tree (quiet (take (suc i) printed.trace.segments)) a b n

-- All lines hold exactly the matches over the trace, if it has a segment.
pub record HoldInAll (printed : Printed) : Type 0 where
  pub exact : 0 < length printed.trace.segments → (a b n : ℕ) → 0 < n
      → LinesHold (lines_in_blocks printed.blocks ++ printed.closing) a b n
      ↔ Matches printed.pattern.tree printed.trace a b n

-- The lines are those of these patterns over these traces.
pub record ArePrinted (patterns : List Sought) (traces : List Timeline)
    (all : List Printed) : Type 0 where
  pub of_patterns : map (λ printed. printed.pattern) all ≡ patterns
  pub over_traces : map (λ printed. printed.trace) all ≡ traces
  pub so_far : All HoldSoFar all

-- The text of the block at place i: the lines of each pattern, and then when its segment ends.
abbrev pub printed_block : ℕ → List Printed → ℕ → ℕ → List ℕ
printed_block scale all i end =
    flat_map (λ printed. lines_printed scale printed.pattern.label (get_or printed.blocks i [])) all
    ++ codes "at " ++ number_text scale end ++ codes "\n"

-- The texts of the blocks from the place i on, for segments of which the first begins at `start`.
abbrev pub printed_from : ℕ → List Printed → ℕ → ℕ → List Segment → List ℕ
printed_from scale all i start [] = []
printed_from scale all i start (segment ∷ segments) =
    printed_block scale all i (start + segment.len)
    ++ printed_from scale all (suc i) (start + segment.len) segments

-- The text behind the blocks of a whole input.
abbrev pub printed_ending : ℕ → List Printed → List Segment → List ℕ
printed_ending scale all segments =
    flat_map (λ printed. lines_printed scale printed.pattern.label printed.closing) all
    ++ codes "end " ++ number_text scale (end_of 0 segments) ++ codes "\n"

-- The text is that of the blocks of lines that say what they are to say.
pub record SaysSoFar (scale : ℕ) (patterns : List Sought) (traces : List Timeline)
    (segments : List Segment) (text : List ℕ) : Type 0 where
  pub all : List Printed
  pub are : ArePrinted patterns traces all
  pub text_is : text ≡ printed_from scale all 0 0 segments

-- The same of a whole input.
pub record SaysAll (scale : ℕ) (patterns : List Sought) (traces : List Timeline)
    (segments : List Segment) (text : List ℕ) : Type 0 where
  pub all : List Printed
  pub are : ArePrinted patterns traces all
  pub in_all : All HoldInAll all
  pub text_is : text
      ≡ printed_from scale all 0 0 segments ++ printed_ending scale all segments
