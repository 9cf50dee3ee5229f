-- The summary, from what was found and what was told.
use Rattle.std.proofs.Common.{◌≡◌, ℕ, ◌<◌, ◌≤◌, List, [], length, ap, ◌∙◌, arith}
use Rattle.tre_offline.specs.MatchSet.{IsMatchSet}
use Rattle.tre_syntax.specs.Meaning.{Matches}
use Rattle.tre_syntax.specs.PatternTree.{PatternTree}
use Rattle.tre_trace.specs.Trace.{end_of, quiet}
use Rattle.tre_trace.specs.declared.segment.Segment.{Segment}
use Rattle.tre_zone.specs.ZoneList.{SetHolds}
use Rattle.tre_zone.specs.declared.zone_bounds.ZoneBounds.{ZoneBounds}
use Rattle.tre_generate.specs.Made.{made_trace}
use Rattle.tre_generate.specs.Probes.{ProbeIsInside, IsProbed}
use Rattle.tre_generate.specs.Summary.{summary_text, IsSummary}
use Rattle.tre_generate.specs.Tallies.{AgreeOnPair, IsTally}
use Rattle.tre_generate.specs.Told.{MatchesAreTold}
use Rattle.tre_generate.specs.declared.tally.Tally.{Tally}
use Rattle.tre_generate.proofs.Counts.{count_along, count_once}
use Rattle.tre_generate.proofs.MadeTraces.{made_trace-length}
use Rattle.tre_generate.proofs.Probing.{probed_along, probed_all}

made_some : (count : ℕ) → 1 ≤ count → made_trace count ≡ [] → ⊥
made_some count some none =
    let size : length (made_trace count) ≡ count = made_trace-length count in
    let zero : length (made_trace count) ≡ length {A = Segment} [] =
    ap (λ (list : List Segment). length list) none in
    absurd (omega (arith, size, zero, some))

module _ (tree : PatternTree) (count : ℕ) (some : 1 ≤ count) (whole told : List ZoneBounds)
    (tally : Tally)
    (matched : IsMatchSet whole tree (quiet (made_trace count)))
    (are_told : MatchesAreTold tree (made_trace count) told)
    (counted : IsTally whole told (made_trace count) count tally) where
  all_alike : (a b n : ℕ) → 0 < n → a ≤ b → AgreeOnPair (SetHolds whole) (SetHolds told) a b n
  all_alike a b n pos le =
      let one = matched.exact.exact a b n pos le in
      let other = (are_told.exact (made_some count some)).exact a b n pos le in
      ((λ h. other.1 (one.0 h)), (λ h. one.1 (other.0 h)))

  alike_is : tally.alike ≡ tally.probes
  alike_is =
      let R = AgreeOnPair (SetHolds whole) (SetHolds told) in
      count_once (ProbeIsInside (made_trace count)) count tally.alike tally.probes
      (count_along (IsProbed R (made_trace count)) (ProbeIsInside (made_trace count))
      (probed_all R all_alike (made_trace count)) count tally.alike counted.alike) counted.probes

  pub summary_is : (text : List ℕ)
      → text ≡ summary_text count (end_of 0 (made_trace count)) (length whole) tally.held
      tally.alike tally.probes
      → IsSummary tree count text
  summary_is text is = record {
    zones = whole;
    matches = matched;
    probes = tally.probes;
    probed = counted.probes;
    held = tally.held;
    matched = count_along (IsProbed (SetHolds whole) (made_trace count))
        (IsProbed (Matches tree (quiet (made_trace count))) (made_trace count))
        (probed_along (SetHolds whole) (Matches tree (quiet (made_trace count))) matched.exact.exact
        (made_trace count)) count tally.held counted.held;
    text_is = is ∙ ap (λ (alike : ℕ). summary_text count (end_of 0 (made_trace count))
        (length whole) tally.held alike tally.probes) alike_is;
  }
