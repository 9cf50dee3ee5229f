-- What had led to where a part of a pattern began.
use Rattle.std.specs.Prelude.{◌≡◌, ℕ, ◌*◌, ◌+◌, ◌-◌, ◌<◌, ◌≤◌, All, List, [], ◌∷◌, Option, MatchOption, ℤ, pos, ◌≤ℤ◌, get_or, length}
use Rattle.std.specs.Int.{int_min}
use Rattle.tre_pairs.specs.Pairs.{Pairs, Either}
use Rattle.tre_pairs.specs.Before.{Before}
use Rattle.tre_zone.specs.Bound.{sum_of}
use Rattle.tre_zone.specs.Held.{Held, EndBy}
use Rattle.tre_zone.specs.Zone.{ZoneHolds, IsZoneOf}
use Rattle.tre_zone.specs.ZoneList.{SetHolds, HoldExactly}
use Rattle.tre_zone.specs.Longest.{LastsUpTo}
use Rattle.tre_node.specs.declared.joining.Joined.{Joined}
use Rattle.tre_node.specs.IsNode.{IsInReach}
use Rattle.tre_zone.specs.declared.zone_bounds.ZoneBounds.{ZoneBounds}

-- The pairs that are kept are of R, and all of R are kept behind which something may end at the
-- time or later that lasts up to the reach.
pub record AreKept (reach : Option ℕ) (time : ℕ) (R : Pairs) (left : List ZoneBounds) : Type 0
  where
    pub sound : (a m n : ℕ) → 0 < n → Held left a m n → R a m n
    pub kept : (a m b n : ℕ) → 0 < n → R a m n → m ≤ b → time * n ≤ b
        → LastsUpTo reach (b - m) n → Held left a m n

-- The bounds of the pairs that end before the time.
unfoldable pub early_of : ZoneBounds → ℤ → ZoneBounds
early_of zone end =
    record {
      begin_low = zone.begin_low;
      begin_high = int_min zone.begin_high (sum_of zone.dur_low end);
      end_low = zone.end_low;
      end_high = end;
      dur_low = zone.dur_low;
      dur_high = int_min zone.dur_high (sum_of end zone.begin_low);
    }

-- Pairs of it end before the time, and others don't.
pub record EndsAround (zone : ZoneBounds) (time : ℕ) : Type 0 where
  pub low : pos 1 ≤ℤ sum_of zone.end_low (pos (2 * time))
  pub high : pos (2 * time) ≤ℤ zone.end_high

-- By no earlier tick all pairs of the zone have ended.
pub record EndsFromTick (time : ℕ) (zone : ZoneBounds) : Type 0 where
  pub late : (bound : ℕ) → EndBy bound (zone ∷ []) → time ≤ bound

-- They have by an earlier one.
pub record EndsBeforeTick (time : ℕ) (zone : ZoneBounds) : Type 0 where
  pub early : (a m n : ℕ) → 0 < n → Held (zone ∷ []) a m n → m + n ≤ time * n

-- Nothing that ends at the time or later and lasts up to the reach begins where a pair of the zone
-- ends.
pub record IsOutOfReach (time : ℕ) (reach : Option ℕ) (zone : ZoneBounds) : Type 0 where
  pub never : (a m b n : ℕ) → 0 < n → Held (zone ∷ []) a m n → m ≤ b → time * n ≤ b
      → LastsUpTo reach (b - m) n → ⊥

-- The pairs of the zone that end before the time, None where nothing counts behind them.
pub record IsEarly (reach : Option ℕ) (time : ℕ) (zone early : ZoneBounds) : Type 0 where
  pub is : IsZoneOf early (Before time (ZoneHolds zone))
  pub reached : IsInReach time reach early

pub record IsLate (reach : Option ℕ) (time : ℕ) (zone : ZoneBounds) : Type 0 where
  pub never : (a m b n : ℕ) → 0 < n → Before time (Held (zone ∷ [])) a m n → m ≤ b → time * n ≤ b
      → LastsUpTo reach (b - m) n → ⊥

abbrev pub GivesEarly : Option ℕ → ℕ → ZoneBounds → Option ZoneBounds → Type 0
GivesEarly reach time zone answer =
    MatchOption answer (IsLate reach time zone) (IsEarly reach time zone)

-- The pairs that are kept are among R, as far as they count; and where each old zone is in reach
-- each new one is.
pub record Keeps (reach : Option ℕ) (time : ℕ) (old : List ZoneBounds) (R : Pairs)
    (new : List ZoneBounds) : Type 0 where
  pub are : AreKept reach time R new
  pub reached : All (IsInReach time reach) old → All (IsInReach time reach) new

-- The same of the old pairs, where each new zone is in reach in any case.
pub record KeepsInReach (reach : Option ℕ) (time : ℕ) (old new : List ZoneBounds) : Type 0 where
  pub are : AreKept reach time (Held old) new
  pub reached : All (IsInReach time reach) new

-- The new zones have the pairs of the old ones and of these, and are in reach where all those are.
pub record JoinsAll (old these new : List ZoneBounds) : Type 0 where
  pub held : HoldExactly new (Either (SetHolds old) (SetHolds these))
  pub reached : (time : ℕ) (reach : Option ℕ) → All (IsInReach time reach) old
      → All (IsInReach time reach) these → All (IsInReach time reach) new

abbrev pub Joins : List ZoneBounds → ZoneBounds → List ZoneBounds → Type 0
Joins old zone new = JoinsAll old (zone ∷ []) new

-- The zone is one with that at the place.
pub record JoinsAt (zones : List ZoneBounds) (zone : ZoneBounds) (joined : Joined) : Type 0 where
  pub one : ZoneBounds
  pub below : joined.place < length zones
  pub is : one ≡ get_or zones joined.place one
  pub both : IsZoneOf joined.whole (Either (ZoneHolds one) (ZoneHolds zone))
