-- What each call of a zone gives: the closure of bounds that hold exactly the pairs that it names.
use Rattle.std.proofs.Common.{◌≡◌, ℕ, ◌+◌, ◌-◌, ◌*◌, ◌^◌, ◌<◌, ◌≤◌, ◌↔◌, Option, Some, None, arith, ℤ, pos, neg_ℤ, ◌-ℤ◌, ◌≤ℤ◌, rules}
use Rattle.std.proofs.lemmas.Int.{ints}
use Rattle.std.specs.Int.{int_min}
use Rattle.tre_pairs.specs.Pairs.{Pairs, Both, Lasting}
use Rattle.tre_pairs.specs.declared.TheConstants.{TIME_MAX}
use Rattle.tre_zone.specs.Bound.{sum_of, Meets, IsKeyWithin, IsValueWithin}
use Rattle.tre_zone.specs.Interval.{IntervalEnds, IsAboveLow, IsBelowHigh, LastsWithin}
use Rattle.tre_zone.specs.Zone.{IsFramed, LeavesRoom, ZoneHolds, IsCanonical, EndsAt, IsZoneOf, HasNoPair, GivesZone, AreKeysWithin, AreValuesWithin}
use Rattle.tre_zone.specs.Closing.{framed_of, closed_of, tighter_of}
use Rattle.tre_zone.specs.declared.zone_bounds.ZoneBounds.{ZoneBounds}
use Rattle.tre_zone.proofs.Bounds.{split, Meets-at_most, Meets-at_least}
use Rattle.tre_zone.proofs.Paths.{Meets-min}
use Rattle.tre_zone.proofs.Closing.{closed-holds, holds-loops}
use Rattle.tre_zone.proofs.Tightness.{canonical-keys, key-wider, keys-wider}

-- An answer for one relation is an answer for another that holds of the same pairs.
pub GivesZone-same : (answer : Option ZoneBounds) (one other : Pairs)
    → ((a b n : ℕ) → 0 < n → a ≤ b → one a b n ↔ other a b n)
    → GivesZone answer one → GivesZone answer other
GivesZone-same None one other same h = search rules
GivesZone-same (Some zone) one other same h = search rules

pub closed-exact : (zone : ZoneBounds) → IsZoneOf (closed_of zone) (ZoneHolds zone)
closed-exact zone = record { exact = λ a b n some le. closed-holds zone a b n some }

pub closed-never : (zone : ZoneBounds) → (LeavesRoom (closed_of zone) → ⊥)
    → HasNoPair (ZoneHolds zone)
closed-never zone not_loops = record {
  never = λ a b n some le held. not_loops
      (holds-loops (closed_of zone) a b n some ((closed-holds zone a b n some).1 held));
}

-- ---- keys within limits

min_key : (limit : ℕ) (x y : ℤ) → IsKeyWithin limit x → neg_ℤ (pos limit) ≤ℤ y
    → IsKeyWithin limit (int_min x y)
min_key limit x y h low = search rules

sum_key : (x y : ℤ) → IsKeyWithin (2 ^ 45) x → IsKeyWithin (2 ^ 45) y
    → neg_ℤ (pos (2 ^ 47)) ≤ℤ sum_of x y
unfolding sum_of
sum_key x y h k = omega (arith, ints, h.low, k.low, (split x).small, (split y).small)

closed_key : (key left right : ℤ) → IsKeyWithin (2 ^ 45) key → IsKeyWithin (2 ^ 45) left
    → IsKeyWithin (2 ^ 45) right
    → IsKeyWithin (2 ^ 47) (int_min key (sum_of left right))
closed_key key left right h k l = min_key (2 ^ 47) key (sum_of left right)
    (key-wider (2 ^ 45) (2 ^ 47) (omega arith) key h) (sum_key left right k l)

pub closed-keys : (zone : ZoneBounds) → AreKeysWithin (2 ^ 45) zone
    → AreKeysWithin (2 ^ 47) (closed_of zone)
unfolding closed_of
closed-keys z h =
    search (rules, closed_key, h.begin_low, h.end_low, h.dur_high, h.begin_high, h.dur_low)

key-value : (key : ℤ) → IsValueWithin (2 ^ 42) key → IsKeyWithin (2 ^ 45) key
key-value key h = let s = split key in record
    { low = omega (arith, ints, h.low); high = omega (arith, ints, h.high) }

pub framed-keys : (zone : ZoneBounds) → AreValuesWithin (2 ^ 42) zone
    → AreKeysWithin (2 ^ 45) (framed_of zone)
unfolding framed_of
framed-keys z h = record {
  begin_low = min_key (2 ^ 45) z.begin_low (pos 1) (key-value z.begin_low h.begin_low)
      (omega (arith, ints));
  begin_high = key-value z.begin_high h.begin_high;
  end_low = key-value z.end_low h.end_low;
  end_high = min_key (2 ^ 45) z.end_high (pos (2 * TIME_MAX + 1)) (key-value z.end_high h.end_high)
      (omega (arith, ints));
  dur_low = min_key (2 ^ 45) z.dur_low (pos 1) (key-value z.dur_low h.dur_low)
      (omega (arith, ints));
  dur_high = key-value z.dur_high h.dur_high;
}

wide_keys : (zone : ZoneBounds) → IsCanonical zone → AreKeysWithin (2 ^ 45) zone
wide_keys z c = keys-wider (2 ^ 42) (2 ^ 45) (omega arith) z (canonical-keys z c)

pub tighter-keys : (one other : ZoneBounds) → IsCanonical one → IsCanonical other
    → AreKeysWithin (2 ^ 45) (tighter_of one other)
unfolding tighter_of
tighter-keys one other c d =
    let h = wide_keys one c in
    let k = wide_keys other d in
    record {
      begin_low = min_key (2 ^ 45) _ _ h.begin_low k.begin_low.low;
      begin_high = min_key (2 ^ 45) _ _ h.begin_high k.begin_high.low;
      end_low = min_key (2 ^ 45) _ _ h.end_low k.end_low.low;
      end_high = min_key (2 ^ 45) _ _ h.end_high k.end_high.low;
      dur_low = min_key (2 ^ 45) _ _ h.dur_low k.dur_low.low;
      dur_high = min_key (2 ^ 45) _ _ h.dur_high k.dur_high.low;
    }

pub tighter-framed : (one other : ZoneBounds) → IsCanonical one → IsFramed (tighter_of one other)
unfolding tighter_of
tighter-framed one other c = search rules

-- ---- the pairs that end at a time, and those of a duration

pub ending-keys : (z : ZoneBounds) → IsCanonical z → (low high : ℤ) → neg_ℤ (pos (2 ^ 45)) ≤ℤ low
    → neg_ℤ (pos (2 ^ 45)) ≤ℤ high
    → AreKeysWithin (2 ^ 45) (record z {
      end_low = int_min z.end_low low;
      end_high =
          int_min z.end_high high;
    })
ending-keys z c low high h k =
    let wide = wide_keys z c in
    record {
      begin_low = wide.begin_low;
      begin_high = wide.begin_high;
      end_low = min_key (2 ^ 45) z.end_low low wide.end_low h;
      end_high = min_key (2 ^ 45) z.end_high high wide.end_high k;
      dur_low = wide.dur_low;
      dur_high = wide.dur_high;
    }

pub ending-holds : (z : ZoneBounds) (low high : ℤ) (t : ℕ) → low ≡ pos 1 -ℤ pos (2 * t)
    → high ≡ pos (2 * t + 1) → (a b n : ℕ) → 0 < n
    → ZoneHolds (record z { end_low = int_min z.end_low low; end_high = int_min z.end_high high })
    a b n ↔ Both (ZoneHolds z) (EndsAt t) a b n
ending-holds z low high t e f a b n some =
    search (rules, Meets-at_least, Meets-at_most, Meets-min, z.end_low, z.end_high)

pub within-keys : (z : ZoneBounds) → IsCanonical z → (low high : ℤ) → neg_ℤ (pos (2 ^ 45)) ≤ℤ low
    → high ≤ℤ z.dur_high → neg_ℤ (pos (2 ^ 45)) ≤ℤ high
    → AreKeysWithin (2 ^ 45) (record z { dur_low = int_min z.dur_low low; dur_high = high })
within-keys z c low high h k l =
    let wide = wide_keys z c in
    record {
      begin_low = wide.begin_low;
      begin_high = wide.begin_high;
      end_low = wide.end_low;
      end_high = wide.end_high;
      dur_low = min_key (2 ^ 45) z.dur_low low wide.dur_low h;
      dur_high = record { low = l; high = omega (arith, ints, wide.dur_high.high) };
    }

pub within-holds : (z : ZoneBounds) (low high : ℤ) (ends : IntervalEnds)
    → ((p q n : ℕ) → p ≤ q → Meets low p q n ↔ IsAboveLow ends (q - p) n)
    → ((p q n : ℕ) → 0 < n → q ≤ p → Meets high p q n
    ↔ (Meets z.dur_high p q n × IsBelowHigh ends (p - q) n))
    → (a b n : ℕ) → 0 < n → a ≤ b
    → ZoneHolds (record z { dur_low = int_min z.dur_low low; dur_high = high }) a b n ↔ Lasting
    (LastsWithin ends) (ZoneHolds z) a b n
within-holds z low high ends above below a b n some le = search (rules, Meets-min, z.dur_low)
