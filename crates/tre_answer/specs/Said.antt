-- What a text says, read line by line, and what stays so.
use Rattle.std.specs.Prelude.{◌≡◌, ◌↔◌, ℕ, ◌*◌, ◌<◌, ◌≤◌, true, List, [], ◌++◌, codes, All, flat_map}
use Rattle.tre_decimal.specs.Decimal.{number_text}
use Rattle.tre_pairs.specs.Pairs.{Pairs}
use Rattle.tre_show.specs.Shown.{Shown, IsTightShown, LinesHold}
use Rattle.tre_syntax.specs.Meaning.{Matches}
use Rattle.tre_tell.specs.Lines.{lines_printed}
use Rattle.tre_tell.specs.Request.{Request}
use Rattle.tre_tell.specs.Transcript.{Account, zones_in_blocks}
use Rattle.tre_trace.specs.Reading.{no_names, segments_for}
use Rattle.tre_trace.specs.Trace.{Timeline, end_of}
use Rattle.tre_words.specs.declared.job.Mode.TheVariants.{Offline}
use Rattle.tre_zone.specs.ZoneList.{SetHolds}
use Rattle.tre_zone.specs.declared.zone_bounds.ZoneBounds.{ZoneBounds}

-- when an input of these bytes ends
abbrev pub end_for : Request → List ℕ → ℕ
end_for request bytes =
    end_of 0 (segments_for no_names (request.recording true bytes).stretches)

-- The text is lines of three ranges and then the end. A pair lies in the three ranges of a line
-- exactly where it is wanted, and each range is the smallest that the pairs of its line allow.
pub record SaysPairs (scale : ℕ) (wanted : Pairs) (end : ℕ) (text : List ℕ) : Type 0 where
  pub lines : List Shown
  pub exact : (a b n : ℕ) → 0 < n → LinesHold lines a b n ↔ wanted a b n
  pub smallest : All IsTightShown lines
  pub text_is : text
      ≡ lines_printed scale [] lines ++ codes "end " ++ number_text scale end ++ codes "\n"

-- What was told is so of the longer trace too, and each match of that which ends before what was
-- told of does was told.
pub record IsForGood (account : Account) (longer : Timeline) : Type 0 where
  pub stays_true : (a b n : ℕ) → 0 < n → a ≤ b → SetHolds (zones_in_blocks account.blocks) a b n
      → Matches account.pattern.tree longer a b n
  pub in_time : (a b n : ℕ) → 0 < n → b < end_of 0 account.trace.segments * n
      → Matches account.pattern.tree longer a b n
      → SetHolds (zones_in_blocks account.blocks) a b n

-- the request of a run without `--online` and else the same words
abbrev pub offline_of : Request → Request
offline_of request = record request { job = record request.job { mode = Offline } }

-- all zones that are told as the input comes, and at its end
abbrev pub zones_told : List Account → List ZoneBounds
zones_told accounts =
    flat_map (λ account. zones_in_blocks account.blocks ++ account.closing) accounts
