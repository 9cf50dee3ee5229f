-- Bounds that are the tightest of the pairs that they hold are canonical.
use Rattle.std.proofs.Common.{ℕ, ◌+◌, ◌*◌, ◌<◌, ◌≤◌, refl, arith, ℤ, pos, ◌≤ℤ◌}
use Rattle.tre_pairs.specs.declared.TheConstants.{TIME_MAX}
use Rattle.tre_zone.specs.Bound.{sum_of, Meets}
use Rattle.tre_zone.specs.Zone.{ZoneHolds, IsCanonical, IsInFrame, HoldsSome, IsTight}
use Rattle.tre_zone.specs.declared.zone_bounds.ZoneBounds.{ZoneBounds}
use Rattle.tre_zone.proofs.Bounds.{Meets-at_most}
use Rattle.tre_zone.proofs.Paths.{Meets-sum, Meets-loop}

-- a difference that is at most c meets the bound "at most c"
at_most : (c p q n : ℕ) → p ≤ q + c * n → Meets (pos (2 * c + 1)) p q n
at_most c p q n le = (Meets-at_most (pos (2 * c + 1)) c refl p q n).1 le

-- where a difference and its opposite both meet a bound, the two leave room
loop : (left right : ℤ) (p q n : ℕ) → 0 < n → Meets left p q n → Meets right q p n
    → pos 1 ≤ℤ sum_of left right
loop left right p q n some there back = Meets-loop (sum_of left right) p n some
    (Meets-sum left right p q p n there back)

pub canonical_from_tight : (zone : ZoneBounds) → HoldsSome zone → IsTight zone
    → ((a b n : ℕ) → 0 < n → a ≤ b → ZoneHolds zone a b n → IsInFrame TIME_MAX a b n)
    → IsCanonical zone
canonical_from_tight zone some tight frame = record {
  room = record {
    begin_loop = loop zone.begin_low zone.begin_high 0 some.a some.n some.some some.held.begin_low
        some.held.begin_high;
    end_loop = loop zone.end_low zone.end_high 0 some.b some.n some.some some.held.end_low
        some.held.end_high;
    dur_loop = loop zone.dur_low zone.dur_high some.a some.b some.n some.some some.held.dur_low
        some.held.dur_high;
  };
  closed = record {
    begin_low = tight.begin_low.tightest (sum_of zone.end_low zone.dur_high)
        (λ a b n pos le held. Meets-sum zone.end_low zone.dur_high 0 b a n held.end_low
        held.dur_high);
    begin_high = tight.begin_high.tightest (sum_of zone.dur_low zone.end_high)
        (λ a b n pos le held. Meets-sum zone.dur_low zone.end_high a b 0 n held.dur_low
        held.end_high);
    end_low = tight.end_low.tightest (sum_of zone.begin_low zone.dur_low)
        (λ a b n pos le held. Meets-sum zone.begin_low zone.dur_low 0 a b n held.begin_low
        held.dur_low);
    end_high = tight.end_high.tightest (sum_of zone.dur_high zone.begin_high)
        (λ a b n pos le held. Meets-sum zone.dur_high zone.begin_high b a 0 n held.dur_high
        held.begin_high);
    dur_low = tight.dur_low.tightest (sum_of zone.begin_high zone.end_low)
        (λ a b n pos le held. Meets-sum zone.begin_high zone.end_low a 0 b n held.begin_high
        held.end_low);
    dur_high = tight.dur_high.tightest (sum_of zone.end_high zone.begin_low)
        (λ a b n pos le held. Meets-sum zone.end_high zone.begin_low b 0 a n held.end_high
        held.begin_low);
  };
  framed = record {
    starts = tight.begin_low.tightest (pos 1) (λ a b n some le held. at_most 0 0 a n (omega arith));
    ends = tight.end_high.tightest (pos (2 * TIME_MAX + 1))
        (λ a b n some le held. at_most TIME_MAX b 0 n
        (omega (arith, (frame a b n some le held).ends)));
    lasts = tight.dur_low.tightest (pos 1)
        (λ a b n some le held. at_most 0 a b n (omega (arith, le)));
  };
}
