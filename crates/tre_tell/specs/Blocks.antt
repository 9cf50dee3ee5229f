-- What is told of patterns as the input comes: for each segment a block, with the lines of each
-- pattern in turn.
use Rattle.std.specs.Prelude.{◌≡◌, ℕ, suc, ◌+◌, List, [], ◌∷◌, ◌++◌, All, get_or, flat_map, map, codes}
use Rattle.tre_decimal.specs.Decimal.{number_text}
use Rattle.tre_show.specs.Line.{line_of}
use Rattle.tre_trace.specs.Trace.{Timeline, end_of}
use Rattle.tre_trace.specs.declared.segment.Segment.{Segment}
use Rattle.tre_zone.specs.declared.zone_bounds.ZoneBounds.{ZoneBounds}
use Rattle.tre_tell.specs.Sought.{Sought}
use Rattle.tre_tell.specs.Transcript.{Account, IsTranscript}

-- The accounts are those of these patterns over these traces, and the blocks of each are right.
pub record AreAccounts (patterns : List Sought) (traces : List Timeline)
    (accounts : List Account) : Type 0 where
  pub of_patterns : map (λ account. account.pattern) accounts ≡ patterns
  pub over_traces : map (λ account. account.trace) accounts ≡ traces
  pub told : All IsTranscript accounts

abbrev pub lines_with : ℕ → List ℕ → List ZoneBounds → List ℕ
lines_with scale label zones = flat_map (λ zone. label ++ line_of scale zone) zones

-- The text of the block at place i: the lines of each account, and then when its segment ends.
abbrev pub block_of : ℕ → List Account → ℕ → ℕ → List ℕ
block_of scale accounts i end =
    flat_map (λ account. lines_with scale account.pattern.label (get_or account.blocks i []))
    accounts ++ codes "at " ++ number_text scale end ++ codes "\n"

abbrev pub blocks_from : ℕ → List Account → ℕ → ℕ → List Segment → List ℕ
blocks_from scale accounts i start [] = []
blocks_from scale accounts i start (segment ∷ segments) =
    block_of scale accounts i (start + segment.len)
    ++ blocks_from scale accounts (suc i) (start + segment.len) segments

unfoldable pub blocks_text : ℕ → List Account → List Segment → List ℕ
blocks_text scale accounts segments = blocks_from scale accounts 0 0 segments

-- The text behind the blocks of a whole input: what its end completes, and where it is.
unfoldable pub ending_text : ℕ → List Account → List Segment → List ℕ
ending_text scale accounts segments =
    flat_map (λ account. lines_with scale account.pattern.label account.closing) accounts
    ++ codes "end " ++ number_text scale (end_of 0 segments) ++ codes "\n"
