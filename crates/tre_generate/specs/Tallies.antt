-- What was counted of the probes.
use Rattle.std.specs.Prelude.{ℕ, ◌≤◌, ◌↔◌, List}
use Rattle.tre_pairs.specs.Pairs.{Pairs}
use Rattle.tre_trace.specs.declared.segment.Segment.{Segment}
use Rattle.tre_zone.specs.ZoneList.{SetHolds}
use Rattle.tre_zone.specs.declared.zone_bounds.ZoneBounds.{ZoneBounds}
use Rattle.tre_generate.specs.Probes.{ProbeIsInside, IsProbed, IsCounted, IsCountOf}
use Rattle.tre_generate.specs.declared.made_run.TheConstants.{SEGMENTS_MAX}
use Rattle.tre_generate.specs.declared.tally.Probe.{Probe}
use Rattle.tre_generate.specs.declared.tally.Tally.{Tally}

-- Both have the pair, or neither has.
abbrev pub AgreeOnPair : Pairs → Pairs → Pairs
AgreeOnPair R S a b n = R a b n ↔ S a b n

-- There are no more than segments may be.
pub record TallyIsFew (tally : Tally) : Type 0 where
  pub probes : tally.probes ≤ SEGMENTS_MAX
  pub held : tally.held ≤ SEGMENTS_MAX
  pub alike : tally.alike ≤ SEGMENTS_MAX

-- The probe was tallied: it counts where it ends no later than `last`.
pub record IsTallied (whole told : List ZoneBounds) (probe : Probe) (last : ℕ)
    (before after : Tally) : Type 0 where
  pub probes : IsCounted (probe.end ≤ last) before.probes after.probes
  pub held : IsCounted ((probe.end ≤ last) × SetHolds whole probe.begin probe.end 2)
      before.held after.held
  pub alike : IsCounted ((probe.end ≤ last)
      × AgreeOnPair (SetHolds whole) (SetHolds told) probe.begin probe.end 2)
      before.alike after.alike

-- The tally of the probes at the places below `limit`.
pub record IsTally (whole told : List ZoneBounds) (segments : List Segment) (limit : ℕ)
    (tally : Tally) : Type 0 where
  pub probes : IsCountOf (ProbeIsInside segments) limit tally.probes
  pub held : IsCountOf (IsProbed (SetHolds whole) segments) limit tally.held
  pub alike : IsCountOf (IsProbed (AgreeOnPair (SetHolds whole) (SetHolds told)) segments) limit
      tally.alike
