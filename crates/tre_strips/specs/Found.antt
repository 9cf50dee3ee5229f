-- The strips that are found on the way.
use Rattle.std.specs.Prelude.{◌≡◌, ℕ, ◌*◌, ◌<◌, ◌≤◌, ◌↔◌, ◌⊎◌, true, Contains, List, [], ◌∷◌}
use Rattle.tre_pairs.specs.Pairs.{Pairs, Both}
use Rattle.tre_pairs.specs.declared.TheConstants.{TIME_MAX}
use Rattle.tre_zone.specs.Zone.{IsCanonical, IsZoneOf, IsInFrame}
use Rattle.tre_zone.specs.ZoneList.{SetHolds}
use Rattle.tre_zone.specs.declared.zone_bounds.ZoneBounds.{ZoneBounds}
use Rattle.tre_strips.specs.Bar.{place_of, BarHolds, BarsHold, AreFilled, RiseFrom}
use Rattle.tre_strips.specs.declared.bar.Bar.{Bar}
use Rattle.tre_strips.specs.declared.strip_zone.Begins.{Begins}

-- The two bars stand in the same places over the begin a/n.
pub record StandAlike (a n : ℕ) (bar other : Bar) : Type 0 where
  pub low : place_of bar.low a n ≡ place_of other.low a n
  pub high : place_of bar.high a n ≡ place_of other.high a n

-- So do the bars of both lists, one by one.
unfoldable pub AreSamePlaces : List Bar → List Bar → ℕ → ℕ → Type 0
AreSamePlaces [] [] a n = Unit {0}
AreSamePlaces [] (other ∷ others) a n = ⊥
AreSamePlaces (bar ∷ bars) [] a n = ⊥
AreSamePlaces (bar ∷ bars) (other ∷ others) a n =
    StandAlike a n bar other × AreSamePlaces bars others a n

-- The bars are those behind the time, and stand where the profile does there.
abbrev pub ProfileGoesOn : List Bar → List Bar → List Bar → ℕ → Type 0
ProfileGoesOn bars there behind time = (bars ≡ behind) × AreSamePlaces bars there (2 * time) 2

-- Over the time none of the bars is empty, and together they are the others.
pub record Agree (time : ℕ) (bars others : List Bar) : Type 0 where
  pub filled : (n : ℕ) → 0 < n → AreFilled bars (time * n) n
  pub exact : (b n : ℕ) → 0 < n → BarsHold bars (time * n) b n ↔ BarsHold others (time * n) b n

-- Over the time the bars rise.
pub record RiseAt (time : ℕ) (bars : List Bar) : Type 0 where
  pub rising : (n : ℕ) → 0 < n → RiseFrom 0 bars (time * n) n

-- The bars of a strip, over its begins: the pair begins in the strip and ends on the bar.
pub record IsOnStrip (begins : Begins) (bar : Bar) (a b n : ℕ) : Type 0 where
  pub low : begins.from * n ≤ a
  pub high : a ≤ begins.until * n
  pub first : a ≡ begins.from * n → begins.takes_from ≡ true
  pub last : a ≡ begins.until * n → begins.takes_until ≡ true
  pub ends : BarHolds bar a b n

-- The same, of pairs in the frame of the times that can be named.
abbrev pub IsInPart : Begins → Bar → Pairs
IsInPart begins bar = Both (IsOnStrip begins bar) (IsInFrame TIME_MAX)

-- The zone was added for each of the bars, where it has some pair, and nothing else.
pub record Pushes (begins : Begins) (bars : List Bar) (old new : List ZoneBounds) : Type 0 where
  pub kept : (zone : ZoneBounds) → Contains old zone → Contains new zone
  pub all : (bar : Bar) (zone : ZoneBounds) → Contains bars bar → IsCanonical zone
      → IsZoneOf zone (IsInPart begins bar) → Contains new zone
  pub sound : (zone : ZoneBounds) → Contains new zone → Contains old zone
      ⊎ (IsCanonical zone × ((bar : Bar) × Contains bars bar
      × IsZoneOf zone (IsInPart begins bar)))
  pub held : (a b n : ℕ) → SetHolds old a b n → SetHolds new a b n
  pub covers : (bar : Bar) → Contains bars bar → (a b n : ℕ) → 0 < n → a ≤ b
      → IsInPart begins bar a b n → SetHolds new a b n
