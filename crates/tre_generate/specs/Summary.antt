-- The summary of a made trace that was matched.
use Rattle.std.specs.Prelude.{◌≡◌, ℕ, List, ◌++◌, codes, length}
use Rattle.tre_decimal.specs.Decimal.{number_text}
use Rattle.tre_offline.specs.MatchSet.{IsMatchSet}
use Rattle.tre_syntax.specs.Meaning.{Matches}
use Rattle.tre_syntax.specs.PatternTree.{PatternTree}
use Rattle.tre_trace.specs.Trace.{end_of, quiet}
use Rattle.tre_zone.specs.declared.zone_bounds.ZoneBounds.{ZoneBounds}
use Rattle.tre_generate.specs.Made.{made_trace}
use Rattle.tre_generate.specs.Probes.{ProbeIsInside, IsProbed, IsCountOf}

abbrev pub count_line : List ℕ → ℕ → List ℕ
count_line word number = word ++ number_text 0 number ++ codes "\n"

abbrev pub share_line : List ℕ → ℕ → ℕ → List ℕ
share_line word part all =
    word ++ number_text 0 part ++ codes " of " ++ number_text 0 all ++ codes "\n"

-- The five lines: how many segments there are, when they end, how many zones were found in the
-- whole trace, how many probes are held by them, and at how many the zones that were told segment
-- by segment are alike.
abbrev pub summary_text : ℕ → ℕ → ℕ → ℕ → ℕ → ℕ → List ℕ
summary_text segments end zones held alike probes =
    count_line (codes "segments ") segments ++ count_line (codes "end ") end
    ++ count_line (codes "zones ") zones ++ share_line (codes "held ") held probes
    ++ share_line (codes "alike ") alike probes

-- The text is the summary of the first segments of the made trace, as many as `count`: its zones
-- are the matches of the pattern, none included in another; `held` of the probes that count are
-- matches; and at all of them both ways of matching are alike.
pub record IsSummary (tree : PatternTree) (count : ℕ) (text : List ℕ) : Type 0 where
  pub zones : List ZoneBounds
  pub matches : IsMatchSet zones tree (quiet (made_trace count))
  pub probes : ℕ
  pub probed : IsCountOf (ProbeIsInside (made_trace count)) count probes
  pub held : ℕ
  pub matched : IsCountOf (IsProbed (Matches tree (quiet (made_trace count))) (made_trace count))
      count held
  pub text_is : text
      ≡ summary_text count (end_of 0 (made_trace count)) (length zones) held probes probes
