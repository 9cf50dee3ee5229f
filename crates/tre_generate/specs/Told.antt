-- What a session tells of a made trace.
use Rattle.std.specs.Prelude.{◌≡◌, List, [], ◌∷◌, ◌++◌}
use Rattle.tre_online.specs.Session.{pattern_of, ended_of, StandsFor, TellsNew}
use Rattle.tre_online.specs.declared.session.Session.{Session}
use Rattle.tre_syntax.specs.Meaning.{Matches}
use Rattle.tre_syntax.specs.Pattern.{pattern_tree}
use Rattle.tre_syntax.specs.PatternTree.{PatternTree}
use Rattle.tre_trace.specs.Trace.{Fits, quiet}
use Rattle.tre_trace.specs.declared.segment.Segment.{Segment}
use Rattle.tre_zone.specs.Zone.{HasNoPair}
use Rattle.tre_zone.specs.ZoneList.{SetHolds, HoldExactly}
use Rattle.tre_zone.specs.declared.zone_bounds.ZoneBounds.{ZoneBounds}

-- Once a segment has come, the zones that were told hold exactly the matches; before, they hold no
-- pair.
pub record MatchesAreTold (tree : PatternTree) (segments : List Segment) (zones : List ZoneBounds)
    : Type 0 where
  pub none : segments ≡ [] → HasNoPair (SetHolds zones)
  pub exact : (segments ≡ [] → ⊥) → HoldExactly zones (Matches tree (quiet segments))

-- The session has read segments behind which this one fits.
pub record CanRead (session : Session) (segment : Segment) : Type 0 where
  pub segments : List Segment
  pub stands : StandsFor session segments
  pub fits : Fits segments segment

-- The session has read one more segment, and told of it.
pub record TellingGoesOn (old new : Session) (segments : List Segment) (segment : Segment)
    : Type 0 where
  pub stands : StandsFor new (segments ++ segment ∷ [])
  pub tells : TellsNew (pattern_tree (pattern_of old)) segments segment (ended_of old)
      (ended_of new)
