-- The pairs that a request asks for, and the text that tells all of them at once.
use Rattle.std.specs.Prelude.{◌≡◌, ℕ, ◌<◌, ◌≤◌, ◌⊎◌, Bool, true, List, ◌∷◌, length, IfSome, IsSomeAnd}
use Rattle.tre_pairs.specs.Pairs.{Pairs}
use Rattle.tre_show.specs.Line.{offline_text}
use Rattle.tre_show.specs.Order.{IsRising}
use Rattle.tre_strips.specs.Strips.{AreStrips}
use Rattle.tre_syntax.specs.Meaning.{Matches}
use Rattle.tre_trace.specs.Reading.{no_names, segments_for}
use Rattle.tre_trace.specs.Trace.{Timeline, end_of}
use Rattle.tre_zone.specs.ZoneList.{IsApart, AreTight, HoldExactly}
use Rattle.tre_zone.specs.declared.zone_bounds.ZoneBounds.{ZoneBounds}
use Rattle.tre_tell.specs.Request.{Request, AreReadAs}
use Rattle.tre_tell.specs.Sought.{Sought}

-- A match of one of the patterns, each over its own trace.
abbrev pub MatchesSome : List Sought → List Timeline → Pairs
MatchesSome (pattern ∷ patterns) (trace ∷ traces) a b n =
    Matches pattern.tree trace a b n ⊎ MatchesSome patterns traces a b n
MatchesSome patterns traces a b n = ⊥

-- What is wanted is a match of the first pattern, and of none of the others.
abbrev pub IsWanted : List Sought → List Timeline → Pairs
IsWanted (pattern ∷ others) (trace ∷ traces) a b n =
    Matches pattern.tree trace a b n × ¬ MatchesSome others traces a b n
IsWanted patterns traces a b n = ⊥

-- The zones hold just the pairs that are wanted, and are in the order in which they are printed.
-- Where the canonical ones are asked for, they are the strips of these pairs.
pub record AreZonesOf (normal : Bool) (wanted : Pairs) (zones : List ZoneBounds) : Type 0 where
  pub exact : HoldExactly zones wanted
  pub apart : IsApart zones
  pub tight : AreTight zones
  pub rising : IsRising zones
  pub strips : normal ≡ true → AreStrips wanted zones

pub record AreZonesFor (request : Request) (bytes : List ℕ) (zones : List ZoneBounds) : Type 0
  where
    pub traces : List Timeline
    pub are : AreReadAs request bytes traces
    pub found : AreZonesOf request.job.normal (IsWanted request.patterns traces) zones

-- The text tells zones that are right for an input of these bytes, no more than there may be.
pub record IsOfflineAnswer (request : Request) (bytes text : List ℕ) : Type 0 where
  pub zones : List ZoneBounds
  pub right : AreZonesFor request bytes zones
  pub few : IfSome request.job.max_zones (λ most. length zones ≤ most)
  pub printed : text ≡ offline_text request.job.scale zones
      (end_of 0 (segments_for no_names (request.recording true bytes).stretches))

-- The canonical zones for an input of these bytes are so many, and more than there may be.
pub record AreTooMany (request : Request) (bytes : List ℕ) (count : ℕ) : Type 0 where
  pub normal : request.job.normal ≡ true
  pub zones : List ZoneBounds
  pub right : AreZonesFor request bytes zones
  pub counted : length zones ≡ count
  pub many : IsSomeAnd request.job.max_zones (λ most. most < count)
