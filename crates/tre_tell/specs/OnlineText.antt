-- The text that is told of one pattern without a label, from its blocks and what closes them; and
-- accounts whose labels tell them apart.
use Rattle.std.specs.List.{AllPairs}
use Rattle.std.specs.Prelude.{◌≡◌, ◌≢◌, ℕ, ◌+◌, All, List, [], ◌∷◌, ◌++◌, length, Option, None, Some, IfSome, codes}
use Rattle.tre_decimal.specs.Decimal.{number_text}
use Rattle.tre_show.specs.Line.{lines_of, offline_text}
use Rattle.tre_state.specs.Name.{IsName}
use Rattle.tre_trace.specs.Trace.{end_of, IsTrace}
use Rattle.tre_trace.specs.declared.segment.Segment.{Segment}
use Rattle.tre_zone.specs.ZoneList.{AreCanonical}
use Rattle.tre_zone.specs.declared.zone_bounds.ZoneBounds.{ZoneBounds}
use Rattle.tre_tell.specs.Transcript.{Account}

-- The text of a block at a scale: the lines of its zones, and then when its segment ends.
unfoldable pub block_text : ℕ → List ZoneBounds → ℕ → List ℕ
block_text scale zones end =
    lines_of scale zones ++ codes "at " ++ number_text scale end ++ codes "\n"

-- The texts of the blocks of segments of which the first begins at `start`.
abbrev pub block_texts : ℕ → ℕ → List (List ZoneBounds) → List Segment → List ℕ
block_texts scale start (zones ∷ blocks) (segment ∷ segments) =
    block_text scale zones (start + segment.len)
    ++ block_texts scale (start + segment.len) blocks segments
block_texts scale start blocks segments = []

-- what closes the text of a trace once its end is known: the zones that the end completes, told as
-- those of a whole match, and where it is
abbrev pub closing_text : ℕ → Option (List ZoneBounds) → ℕ → List ℕ
closing_text scale (Some zones) end = offline_text scale zones end
closing_text scale None end = []

-- The text of a trace with a block for each segment, and where it is closed, with what its end
-- completes and its end.
unfoldable pub online_text : ℕ → List (List ZoneBounds) → Option (List ZoneBounds) →
    List Segment → List ℕ
online_text scale blocks closing trace =
    block_texts scale 0 blocks trace ++ closing_text scale closing (end_of 0 trace)

-- The zones of each block have canonical bounds.
abbrev pub AreCanonicalBlocks : List (List ZoneBounds) → Type 0
AreCanonicalBlocks [] = Unit {0}
AreCanonicalBlocks (zones ∷ blocks) = AreCanonical zones × AreCanonicalBlocks blocks

-- One block for each segment of a trace, and what closes them where they are closed. The zones have
-- canonical bounds, as those of a transcript have.
pub record AreBlocksOf (blocks : List (List ZoneBounds)) (closing : Option (List ZoneBounds))
    (trace : List Segment) : Type 0 where
  pub count : length blocks ≡ length trace
  pub is_trace : IsTrace trace
  pub canonical : AreCanonicalBlocks blocks
  pub closed : IfSome closing AreCanonical

-- The label is a name and a space.
pub record IsLabel (label : List ℕ) : Type 0 where
  pub name : List ℕ
  pub is_name : IsName name
  pub is : label ≡ name ++ codes " "

-- Each account has a label of its own and one block for each segment of a trace, of canonical
-- zones, and canonical zones that close them.
pub record AreWatched (accounts : List Account) (segments : List Segment) : Type 0 where
  pub is_trace : IsTrace segments
  pub labels : All (λ account. IsLabel account.pattern.label) accounts
  pub distinct : AllPairs (λ one other. one.pattern.label ≢ other.pattern.label) accounts
  pub blocks : All (λ account. AreBlocksOf account.blocks (Some account.closing) segments) accounts

-- The same before they are closed: whatever closes them isn't looked at.
pub record AreWatchedSoFar (accounts : List Account) (segments : List Segment) : Type 0 where
  pub is_trace : IsTrace segments
  pub labels : All (λ account. IsLabel account.pattern.label) accounts
  pub distinct : AllPairs (λ one other. one.pattern.label ≢ other.pattern.label) accounts
  pub blocks : All (λ account. AreBlocksOf account.blocks None segments) accounts
