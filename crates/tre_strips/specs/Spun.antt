-- What is found of the strips by a pass over time.
use Rattle.std.specs.Prelude.{◌≡◌, ℕ, ◌*◌, ◌<◌, ◌≤◌, ◌↔◌, ◌⊎◌, Bool, true, false, Contains, List}
use Rattle.tre_zone.specs.Zone.{IsCanonical, IsZoneOf}
use Rattle.tre_zone.specs.ZoneList.{SetHolds, HoldExactly}
use Rattle.tre_zone.specs.declared.zone_bounds.ZoneBounds.{ZoneBounds}
use Rattle.tre_strips.specs.Profile.{IsProfile, BarsFit}
use Rattle.tre_strips.specs.Runs.{IsRunOfBars, IsAlone, IsInBlock, IsInColumn}
use Rattle.tre_strips.specs.Strips.{IsStripZone}
use Rattle.tre_strips.specs.Found.{Agree, Pushes}
use Rattle.tre_strips.specs.declared.bar.Bar.{Bar}

-- The run of the bars was closed at the time, and its strip found; `taken` says whether it takes
-- that time, over which the profile is `there`.
pub record ClosesRun (bars there : List Bar) (from time : ℕ) (takes taken : Bool)
    (old new : List ZoneBounds) : Type 0 where
  pub fits : (taken ≡ true) ↔ Agree time bars there
  pub pushed : Pushes (record {
    from = from;
    takes_from = takes;
    until = time;
    takes_until = taken;
  }) bars old new

-- The strip of the time was found, where no run takes it: neither the one before it nor the one
-- behind it.
abbrev pub FindsAlone : List Bar → ℕ → Bool → Bool → List ZoneBounds → List ZoneBounds → Type 0
FindsAlone there time taken takes old new =
    (((taken ≡ true) ⊎ (takes ≡ true)) × (new ≡ old))
    ⊎ ((taken ≡ false) × (takes ≡ false) × Pushes (record {
      from = time;
      takes_from = true;
      until = time;
      takes_until = true;
    }) there old new)

-- The run of the bars behind the time was begun, and `takes` says whether it takes that time. Where
-- neither it nor the one before it does, the strip of the time was found.
pub record Begun (there behind : List Bar) (time : ℕ) (taken takes : Bool)
    (old new : List ZoneBounds) : Type 0 where
  pub fits : (takes ≡ true) ↔ Agree time behind there
  pub pushed : FindsAlone there time taken takes old new

-- Up to the time all strips of the zones were found, but for that of the open run, whose bars are
-- the profile from its first time on, and for that of this first time where the run takes it.
pub record IsSpun (zones : List ZoneBounds) (bars : List Bar) (from : ℕ) (takes_from : Bool)
    (found : List ZoneBounds) (time : ℕ) : Type 0 where
  pub rising : from < time
  pub profile : IsProfile (SetHolds zones) bars from time
  pub first : (start : ℕ) → start ≤ from → IsProfile (SetHolds zones) bars start time
      → start ≡ from
  pub takes : (takes_from ≡ true) ↔ BarsFit (SetHolds zones) bars from
  pub sound : (zone : ZoneBounds) → Contains found zone
      → IsCanonical zone × IsStripZone (SetHolds zones) zone
  pub runs : (others : List Bar) (start end : ℕ) (bar : Bar) (zone : ZoneBounds)
      → IsRunOfBars (SetHolds zones) others start end → start < from → Contains others bar
      → IsCanonical zone → IsZoneOf zone (IsInBlock (SetHolds zones) others start end bar)
      → Contains found zone
  pub alone : (others : List Bar) (moment : ℕ) (bar : Bar) (zone : ZoneBounds)
      → IsAlone (SetHolds zones) moment → IsProfile (SetHolds zones) others moment moment
      → moment ≤ from → (moment ≡ from → takes_from ≡ true → ⊥)
      → Contains others bar → IsCanonical zone → IsZoneOf zone (IsInColumn moment bar)
      → Contains found zone
  pub held : (a b n : ℕ) → 0 < n → SetHolds zones a b n
      → (a < from * n) ⊎ ((a ≡ from * n) × (takes_from ≡ true → ⊥))
      → SetHolds found a b n

-- The lists hold the same pairs.
pub record HaveSamePairs (one other : List ZoneBounds) : Type 0 where
  pub same : (a b n : ℕ) → 0 < n → SetHolds one a b n ↔ SetHolds other a b n

-- Of the strips of the set just the zones were found, maybe some of them twice.
pub record AreFound (set found : List ZoneBounds) : Type 0 where
  pub exact : (zone : ZoneBounds) → Contains found zone
      ↔ (IsCanonical zone × IsStripZone (SetHolds set) zone)
  pub held : HoldExactly found (SetHolds set)
