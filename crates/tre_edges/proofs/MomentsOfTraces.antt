-- The moments of a trace, as one zone.
use Rattle.std.proofs.Common.{◌≡◌, ℕ, ◌<◌, ◌↔◌, List, [], rules}
use Rattle.tre_pairs.specs.Pairs.{Either}
use Rattle.tre_zone.specs.Zone.{ZoneHolds, IsInstantBetween}
use Rattle.tre_zone.specs.ZoneList.{SetHolds, HoldExactly}
use Rattle.tre_zone.specs.declared.zone_bounds.ZoneBounds.{ZoneBounds}
use Rattle.tre_zone.proofs.ZoneListLemmas.{SetHolds-empty}
use Rattle.tre_trace.specs.Trace.{Timeline, end_of}
use Rattle.tre_syntax.specs.PatternTree.{empty}
use Rattle.tre_syntax.specs.Rest.{whole, AtomMatches}

pub moments_exact : (trace : Timeline) (zone : ZoneBounds) (old zones : List ZoneBounds)
    (end : ℕ) → old ≡ [] → end ≡ end_of 0 trace.segments
    → ((a b n : ℕ) → 0 < n → ZoneHolds zone a b n ↔ IsInstantBetween 0 end a b n)
    → HoldExactly zones (Either (SetHolds old) (ZoneHolds zone))
    → HoldExactly zones (AtomMatches (whole trace) empty)
moments_exact trace zone old zones end none ends instants held = search (rules, SetHolds-empty)
