-- What two zones hold together is a zone exactly where the loosest bounds of both hold nothing more.
use Rattle.std.proofs.Common.{ℕ, ◌<◌, ◌≤◌, ◌^◌, ◌⊎◌, ◌↔◌, inl, inr, ⊎_elim, arith, ℤ, pos, ◌-ℤ◌, ◌≤ℤ◌, rules}
use Rattle.std.proofs.lemmas.Int.{ints, clamps}
use Rattle.std.specs.Int.{int_min, int_max}
use Rattle.tre_pairs.specs.Pairs.{Either}
use Rattle.tre_zone.specs.Bound.{sum_of, Meets, IsKeyWithin}
use Rattle.tre_zone.specs.Zone.{ZoneHolds, Includes, Covers, IsCanonical, IsFramed, IsZoneOf, AreKeysWithin}
use Rattle.tre_zone.specs.Beyond.{looser_of, key_at, cut_at, MeetsAt, IsHeldBeyond, AreHeldBeyond}
use Rattle.tre_zone.specs.declared.united.Side.{Side}
use Rattle.tre_zone.specs.declared.united.Side.TheVariants.{BeginLow, BeginHigh, EndLow, EndHigh, DurLow, DurHigh}
use Rattle.tre_zone.specs.declared.zone_bounds.ZoneBounds.{ZoneBounds}
use Rattle.tre_zone.proofs.Opposites.{Meets-opposite, Meets-apart, Meets-cases}
use Rattle.tre_zone.proofs.Paths.{Meets-min, Meets-looser}
use Rattle.tre_zone.proofs.Sums.{sum_of-le, le_trans}
use Rattle.tre_zone.proofs.Tightness.{Covers-Includes, Includes-Covers}

-- ---- the loosest bounds

max_least : (x y z : ℤ) → x ≤ℤ z → y ≤ℤ z → int_max x y ≤ℤ z
max_least x y z h k = omega (arith, ints, clamps)

max_left : (x y : ℤ) → x ≤ℤ int_max x y
max_left x y = omega (arith, ints, clamps)

max_right : (x y : ℤ) → y ≤ℤ int_max x y
max_right x y = omega (arith, ints, clamps)

left_sum : (key l l' r r' : ℤ) → key ≤ℤ sum_of l r
    → key ≤ℤ sum_of (int_max l l') (int_max r r')
left_sum key l l' r r' le =
    le_trans _ _ _ le (sum_of-le l (int_max l l') r (int_max r r') (max_left l l') (max_left r r'))

right_sum : (key l l' r r' : ℤ) → key ≤ℤ sum_of l' r'
    → key ≤ℤ sum_of (int_max l l') (int_max r r')
right_sum key l l' r r' le = search (rules, le_trans, sum_of-le, max_right)

both_sums : (key key' l l' r r' : ℤ) → key ≤ℤ sum_of l r → key' ≤ℤ sum_of l' r'
    → int_max key key' ≤ℤ sum_of (int_max l l') (int_max r r')
both_sums key key' l l' r r' le le' =
    max_least key key' _ (left_sum key l l' r r' le) (right_sum key' l l' r r' le')

pub looser-canonical : (one other : ZoneBounds) → IsCanonical one → IsCanonical other
    → IsCanonical (looser_of one other)
unfolding looser_of
looser-canonical one other c d = record {
  room = record {
    begin_loop = left_sum _ _ _ _ _ c.room.begin_loop;
    end_loop = left_sum _ _ _ _ _ c.room.end_loop;
    dur_loop = left_sum _ _ _ _ _ c.room.dur_loop;
  };
  closed = record {
    begin_low = both_sums _ _ _ _ _ _ c.closed.begin_low d.closed.begin_low;
    begin_high = both_sums _ _ _ _ _ _ c.closed.begin_high d.closed.begin_high;
    end_low = both_sums _ _ _ _ _ _ c.closed.end_low d.closed.end_low;
    end_high = both_sums _ _ _ _ _ _ c.closed.end_high d.closed.end_high;
    dur_low = both_sums _ _ _ _ _ _ c.closed.dur_low d.closed.dur_low;
    dur_high = both_sums _ _ _ _ _ _ c.closed.dur_high d.closed.dur_high;
  };
  framed = record {
    starts = max_least _ _ _ c.framed.starts d.framed.starts;
    ends = max_least _ _ _ c.framed.ends d.framed.ends;
    lasts = max_least _ _ _ c.framed.lasts d.framed.lasts;
  };
}

covers_left : (one other : ZoneBounds) → Covers (looser_of one other) one
unfolding looser_of
covers_left one other = search rules

covers_right : (one other : ZoneBounds) → Covers (looser_of one other) other
unfolding looser_of
covers_right one other = search rules

covers_both : (zone one other : ZoneBounds) → Covers zone one → Covers zone other
    → Covers zone (looser_of one other)
unfolding looser_of
covers_both zone one other c d = search rules

-- ---- what lies beyond a bound

pub held-at : (side : Side) (zone : ZoneBounds) (a b n : ℕ) → ZoneHolds zone a b n
    → MeetsAt side (key_at side zone) a b n
held-at BeginLow zone a b n h = h.begin_low
held-at BeginHigh zone a b n h = h.begin_high
held-at EndLow zone a b n h = h.end_low
held-at EndHigh zone a b n h = h.end_high
held-at DurLow zone a b n h = h.dur_low
held-at DurHigh zone a b n h = h.dur_high

MeetsAt-cases : (side : Side) (key : ℤ) (a b n : ℕ)
    → MeetsAt side key a b n ⊎ (MeetsAt side key a b n → ⊥)
MeetsAt-cases BeginLow key a b n = Meets-cases key 0 a n
MeetsAt-cases BeginHigh key a b n = Meets-cases key a 0 n
MeetsAt-cases EndLow key a b n = Meets-cases key 0 b n
MeetsAt-cases EndHigh key a b n = Meets-cases key b 0 n
MeetsAt-cases DurLow key a b n = Meets-cases key a b n
MeetsAt-cases DurHigh key a b n = Meets-cases key b a n

MeetsAt-looser : (side : Side) (key other : ℤ) (a b n : ℕ) → 0 < n → key ≤ℤ other
    → MeetsAt side key a b n → MeetsAt side other a b n
MeetsAt-looser BeginLow key other a b n some le m = Meets-looser key other 0 a n some le m
MeetsAt-looser BeginHigh key other a b n some le m = Meets-looser key other a 0 n some le m
MeetsAt-looser EndLow key other a b n some le m = Meets-looser key other 0 b n some le m
MeetsAt-looser EndHigh key other a b n some le m = Meets-looser key other b 0 n some le m
MeetsAt-looser DurLow key other a b n some le m = Meets-looser key other a b n some le m
MeetsAt-looser DurHigh key other a b n some le m = Meets-looser key other b a n some le m

-- A bound that is tighter by another is met where both are, and the opposite where one isn't.
cut-met : (old key : ℤ) (p q n : ℕ) → 0 < n
    → Meets (int_min old (pos 1 -ℤ key)) q p n ↔ (Meets old q p n × (Meets key p q n → ⊥))
cut-met old key p q n some =
    let both = Meets-min old (pos 1 -ℤ key) q p n some in (
      (λ m. ((both.0 m).0, (λ x. Meets-apart key p q n x (both.0 m).1))),
      (λ h. both.1 (h.0, Meets-opposite key p q n h.1)),
    )

pub cut-holds : (side : Side) (zone : ZoneBounds) (key : ℤ) (a b n : ℕ) → 0 < n
    → ZoneHolds (cut_at side zone (pos 1 -ℤ key)) a b n
    ↔ (ZoneHolds zone a b n × (MeetsAt side key a b n → ⊥))
cut-holds BeginLow zone key a b n some = search (rules, cut-met, zone.begin_high)
cut-holds BeginHigh zone key a b n some = search (rules, cut-met, zone.begin_low)
cut-holds EndLow zone key a b n some = search (rules, cut-met, zone.end_high)
cut-holds EndHigh zone key a b n some = search (rules, cut-met, zone.end_low)
cut-holds DurLow zone key a b n some = search (rules, cut-met, zone.dur_high)
cut-holds DurHigh zone key a b n some = search (rules, cut-met, zone.dur_low)

pub held-beyond : (side : Side) (whole one other : ZoneBounds)
    → Includes other (cut_at side whole (pos 1 -ℤ key_at side one))
    ↔ IsHeldBeyond side whole one other
held-beyond side whole one other = (
  (λ h. record {
    every = λ a b n some le held not.
        h.every a b n some le ((cut-holds side whole (key_at side one) a b n some).1 (held, not));
  }),
  (λ h. record {
    every = λ a b n some le held.
        let both = (cut-holds side whole (key_at side one) a b n some).0 held in
        h.every a b n some le both.0 both.1;
  }),
)

-- Nothing of the whole lies beyond a bound that is no tighter than its own.
pub held-covered : (side : Side) (whole one other : ZoneBounds)
    → key_at side whole ≤ℤ key_at side one → IsHeldBeyond side whole one other
held-covered side whole one other le = record {
  every = λ a b n some rising h not.
      absurd (not (MeetsAt-looser side (key_at side whole) (key_at side one) a b n some le
      (held-at side whole a b n h)));
}

-- ---- the union

held_or : (side : Side) (whole one other : ZoneBounds) → IsHeldBeyond side whole one other
    → (a b n : ℕ) → 0 < n → a ≤ b → ZoneHolds whole a b n
    → MeetsAt side (key_at side one) a b n ⊎ ZoneHolds other a b n
held_or side whole one other beyond a b n some le h =
    ⊎_elim (λ x. inl x) (λ x. inr (beyond.every a b n some le h x))
    (MeetsAt-cases side (key_at side one) a b n)

in_either : (whole one other : ZoneBounds) → AreHeldBeyond whole one other → (a b n : ℕ)
    → 0 < n → a ≤ b → ZoneHolds whole a b n → ZoneHolds one a b n ⊎ ZoneHolds other a b n
in_either whole one other all a b n some le h =
    ⊎_elim (λ p. ⊎_elim (λ q. ⊎_elim (λ r. ⊎_elim (λ s. ⊎_elim (λ t. ⊎_elim
    (λ u. inl (record {
      begin_low = p;
      begin_high = q;
      end_low = r;
      end_high = s;
      dur_low = t;
      dur_high = u;
    }))
    (λ x. inr x) (held_or DurHigh whole one other all.dur_high a b n some le h))
    (λ x. inr x) (held_or DurLow whole one other all.dur_low a b n some le h))
    (λ x. inr x) (held_or EndHigh whole one other all.end_high a b n some le h))
    (λ x. inr x) (held_or EndLow whole one other all.end_low a b n some le h))
    (λ x. inr x) (held_or BeginHigh whole one other all.begin_high a b n some le h))
    (λ x. inr x) (held_or BeginLow whole one other all.begin_low a b n some le h)

pub union-exact : (one other : ZoneBounds) → AreHeldBeyond (looser_of one other) one other
    → IsZoneOf (looser_of one other) (Either (ZoneHolds one) (ZoneHolds other))
union-exact one other all = record {
  exact = λ a b n some le. (
    (λ h. in_either (looser_of one other) one other all a b n some le h),
    (λ h. ⊎_elim
        (λ x. (Covers-Includes (looser_of one other) one (covers_left one other)).every a b n some
        le x)
        (λ x. (Covers-Includes (looser_of one other) other (covers_right one other)).every a b n
        some le x) h),
  );
}

pub union-beyond : (one other zone : ZoneBounds) → IsCanonical one → IsCanonical other
    → IsZoneOf zone (Either (ZoneHolds one) (ZoneHolds other))
    → (side : Side) → IsHeldBeyond side (looser_of one other) one other
union-beyond one other zone c d union side =
    let left : Includes zone one =
    record { every = λ a b n some le h. (union.exact a b n some le).1 (inl h) } in
    let right : Includes zone other =
    record { every = λ a b n some le h. (union.exact a b n some le).1 (inr h) } in
    let whole = Covers-Includes zone (looser_of one other)
    (covers_both zone one other (Includes-Covers zone one c left)
    (Includes-Covers zone other d right)) in
    record {
      every = λ a b n some le h not.
          ⊎_elim (λ x. absurd (not (held-at side one a b n x))) (λ x. x)
          ((union.exact a b n some le).0 (whole.every a b n some le h));
    }

pub union-all : (one other zone : ZoneBounds) → IsCanonical one → IsCanonical other
    → IsZoneOf zone (Either (ZoneHolds one) (ZoneHolds other))
    → AreHeldBeyond (looser_of one other) one other
union-all one other zone c d union = search (rules, union-beyond)

-- ---- keys within limits

pub key-within : (side : Side) (limit : ℕ) (zone : ZoneBounds) → AreKeysWithin limit zone
    → IsKeyWithin limit (key_at side zone)
key-within BeginLow limit zone h = h.begin_low
key-within BeginHigh limit zone h = h.begin_high
key-within EndLow limit zone h = h.end_low
key-within EndHigh limit zone h = h.end_high
key-within DurLow limit zone h = h.dur_low
key-within DurHigh limit zone h = h.dur_high

pub cut-framed : (side : Side) (zone : ZoneBounds) (key : ℤ) → IsFramed zone
    → IsFramed (cut_at side zone key)
cut-framed BeginLow zone key h = record { starts = h.starts; ends = h.ends; lasts = h.lasts }
cut-framed BeginHigh zone key h = search rules
cut-framed EndLow zone key h = search rules
cut-framed EndHigh zone key h = record { starts = h.starts; ends = h.ends; lasts = h.lasts }
cut-framed DurLow zone key h = record { starts = h.starts; ends = h.ends; lasts = h.lasts }
cut-framed DurHigh zone key h = search rules

pub cut-keys : (side : Side) (zone : ZoneBounds) (key : ℤ) → AreKeysWithin (2 ^ 42) zone
    → IsKeyWithin (2 ^ 42) key → AreKeysWithin (2 ^ 45) (cut_at side zone (pos 1 -ℤ key))
cut-keys BeginLow zone key h k = search rules
cut-keys BeginHigh zone key h k = search rules
cut-keys EndLow zone key h k = search rules
cut-keys EndHigh zone key h k = search rules
cut-keys DurLow zone key h k = search rules
cut-keys DurHigh zone key h k = search rules
