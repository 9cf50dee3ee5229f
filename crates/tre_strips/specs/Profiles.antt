-- The bars of zones over some times, and their unions.
use Rattle.std.specs.Prelude.{◌≡◌, ℕ, ◌*◌, ◌<◌, ◌≤◌, ◌↔◌, Bool, true, false, not, ◌==◌, List, [], ◌∷◌, ◌++◌, Option, MatchOption, MatchBool, max, ℤ, nat_abs}
use Rattle.tre_zone.specs.Bound.{value_of, weakness_of}
use Rattle.tre_zone.specs.Zone.{ZoneHolds}
use Rattle.tre_zone.specs.ZoneList.{SetHolds}
use Rattle.tre_zone.specs.declared.zone_bounds.ZoneBounds.{ZoneBounds}
use Rattle.tre_strips.specs.Bar.{place_of, BarHolds, BarsHold, AreFilled, RiseFrom}
use Rattle.tre_strips.specs.Times.{IsAmongTimes, Compares}
use Rattle.tre_strips.specs.declared.bar.Bar.{Bar}
use Rattle.tre_strips.specs.declared.bar.BarEnd.{BarEnd}
use Rattle.tre_strips.specs.declared.times.Times.{Times}

-- The end that a low bound makes, fixed or moving with the begin: where it is strict, just after
-- its moment.
abbrev pub low_of : ℤ → Bool → BarEnd
low_of key moving = record {
  ticks = nat_abs (value_of key);
  moves = moving;
  after = not (weakness_of key == 1);
}

-- The end that a high bound makes: where it is weak, just after its moment.
abbrev pub bar_end_of : ℤ → Bool → BarEnd
bar_end_of key moving = record {
  ticks = nat_abs (value_of key);
  moves = moving;
  after = weakness_of key == 1;
}

-- Whether pairs that begin at the times meet the two bounds on the begin: all or none.
pub record Begin (begins : Bool) (times : Times) (low high : ℤ) : Type 0 where
  pub each : (a n : ℕ) → IsAmongTimes times a n → MatchBool begins
      ((place_of (low_of low false) a n ≤ 2 * a) × (2 * a < place_of (bar_end_of high false) a n))
      ((place_of (low_of low false) a n ≤ 2 * a) → (2 * a < place_of (bar_end_of high false) a n) →
      ⊥)

-- Over each of the times the bar is not empty, and has the ends of the zone's pairs. Where there is
-- none, no pair of the zone begins at one of the times.
pub record IsBarOf (times : Times) (zone : ZoneBounds) (found : Option Bar) : Type 0 where
  pub each : (a n : ℕ) → IsAmongTimes times a n → MatchOption found
      ((b : ℕ) → ZoneHolds zone a b n → ⊥)
      (λ bar. (place_of bar.low a n < place_of bar.high a n)
      × ((b : ℕ) → BarHolds bar a b n ↔ ZoneHolds zone a b n))

-- Over each of the times none of the bars is empty.
pub record AreFilledOver (times : Times) (bars : List Bar) : Type 0 where
  pub each : (a n : ℕ) → IsAmongTimes times a n → AreFilled bars a n

-- Over each of the times the bars are not empty, and have the ends of the zones' pairs.
pub record AreBarsOf (times : Times) (zones : List ZoneBounds) (bars : List Bar) : Type 0 where
  pub filled : (a n : ℕ) → IsAmongTimes times a n → AreFilled bars a n
  pub exact : (a n : ℕ) → IsAmongTimes times a n
      → (b : ℕ) → BarsHold bars a b n ↔ SetHolds zones a b n

-- Over each of the times the bars rise, and together are the others.
pub record IsUnionOfBars (times : Times) (others bars : List Bar) : Type 0 where
  pub rising : (a n : ℕ) → IsAmongTimes times a n → RiseFrom 0 bars a n
  pub exact : (a n : ℕ) → IsAmongTimes times a n
      → (b : ℕ) → BarsHold bars a b n ↔ BarsHold others a b n

-- Over each of the times the bar begins where the one does, not behind the other, and ends where
-- the later of the two does.
pub record IsJoined (times : Times) (one other joined : Bar) : Type 0 where
  pub same : joined.low ≡ one.low
  pub order : (a n : ℕ) → IsAmongTimes times a n → place_of one.low a n ≤ place_of other.low a n
  pub high : (a n : ℕ) → IsAmongTimes times a n
      → place_of joined.high a n ≡ max (place_of one.high a n) (place_of other.high a n)

-- The next bar follows the last of the joined ones: there is a gap between them, and the last one
-- is added; or they touch, and are joined.
pub data ExtendsBars (times : Times) (last bar : Bar) (old new : List Bar) (next : Bar) : Type 0
  where
    apart : Compares true times last.high bar.low → new ≡ old ++ last ∷ [] → next ≡ bar
        → ExtendsBars times last bar old new next
    touching : Compares false times last.high bar.low → IsJoined times last bar next → new ≡ old
        → ExtendsBars times last bar old new next
