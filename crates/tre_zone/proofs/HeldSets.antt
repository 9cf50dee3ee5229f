-- What lists of zones hold, where the first time is not after the second.
use Rattle.std.proofs.Common.{ℕ, List, [], rules}
use Rattle.std.proofs.Math.Nat.{mul-le-mul_left, le_of_mul-le-mul_left}
use Rattle.tre_pairs.specs.Pairs.{Composed}
use Rattle.tre_pairs.proofs.Agreement.{Agree-Composed}
use Rattle.tre_pairs.proofs.Laws.{Scales, IsOrdered, Agree}
use Rattle.tre_pairs.proofs.Order.{IsOrdered-Composed}
use Rattle.tre_zone.specs.Held.{Held, IsSetOf}
use Rattle.tre_zone.specs.ZoneList.{SetHolds, AreCanonical, HoldExactly}
use Rattle.tre_zone.specs.declared.zone_bounds.ZoneBounds.{ZoneBounds}
use Rattle.tre_zone.proofs.Scaling.{SetHolds-scale, SetHolds-rising}
use Rattle.tre_zone.proofs.ZoneListLemmas.{SetHolds-empty}

pub Scales-Held : (zones : List ZoneBounds) → Scales (Held zones)
Scales-Held zones = search (rules, mul-le-mul_left, SetHolds-scale, le_of_mul-le-mul_left)

pub IsOrdered-Held : (zones : List ZoneBounds) → IsOrdered (Held zones)
IsOrdered-Held zones = record { le = λ a b n h. h.rising }

pub Held-empty : (a b n : ℕ) → Held [] a b n → ⊥
Held-empty a b n h = SetHolds-empty a b n h.held

-- Zones hold no other pairs.
pub Agree-Held : (zones : List ZoneBounds) → AreCanonical zones
    → Agree (Held zones) (SetHolds zones)
Agree-Held zones canonical = search (rules, SetHolds-rising)

-- The pairs of one list, followed by those of another.
pub composed_set : (first second zones : List ZoneBounds) → AreCanonical first
    → AreCanonical second → HoldExactly zones (Composed (SetHolds first) (SetHolds second))
    → IsSetOf zones (Composed (Held first) (Held second))
composed_set first second zones one other held =
    let same = Agree-Composed (Held first) (SetHolds first) (Held second) (SetHolds second)
    (Agree-Held first one) (Agree-Held second other) in
    let ordered = IsOrdered-Composed (Held first) (Held second) (IsOrdered-Held first)
    (IsOrdered-Held second) in
    record {
      pairs = λ a b n some. (
        (λ h. (same.at a b n some).1 ((held.exact a b n some h.rising).0 h.held)),
        (λ h.
            let le = ordered.le a b n h in
            record {
              rising = le;
              held = (held.exact a b n some le).1 ((same.at a b n some).0 h);
            }),
      );
    }
