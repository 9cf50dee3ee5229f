-- Six bounds that are canonical: a first begin and a last end that belong to the zone, a longest
-- duration that does, and the other three as tight as they allow.
use Rattle.std.proofs.Common.{ℕ, ◌+◌, ◌*◌, ◌≤◌, arith, ℤ, pos, ◌+ℤ◌, ◌-ℤ◌, ◌≤ℤ◌}
use Rattle.std.proofs.lemmas.Int.{ints}
use Rattle.tre_pairs.specs.declared.TheConstants.{TIME_MAX}
use Rattle.tre_zone.specs.Bound.{sum_of}
use Rattle.tre_zone.specs.Zone.{IsCanonical}
use Rattle.tre_zone.specs.declared.zone_bounds.ZoneBounds.{ZoneBounds}
use Rattle.tre_zone.proofs.Bounds.{split}

-- The bounds with a first begin, a last end and a longest duration, and the keys of the others.
abbrev pub bounds_from : ℕ → ℕ → ℕ → ℤ → ℤ → ℤ → ZoneBounds
bounds_from first last longest begin_high end_low dur_low = record {
  begin_low = pos 1 -ℤ pos (2 * first);
  begin_high = begin_high;
  end_low = end_low;
  end_high = pos (2 * last + 1);
  dur_low = dur_low;
  dur_high = pos (2 * longest + 1);
}

-- Each of these three keys reaches as far as the times ask, and no further than two others allow.
pub bounds-canonical : (first last longest : ℕ) (high low least : ℤ)
    → last ≤ TIME_MAX → first + longest ≤ last → least ≤ℤ pos 1
    → pos (2 * last + 1) ≤ℤ (high +ℤ pos (2 * longest)) → high ≤ℤ (least +ℤ pos (2 * last))
    → pos 1 ≤ℤ (low +ℤ pos (2 * (first + longest))) → (low +ℤ pos (2 * first)) ≤ℤ least
    → (least +ℤ pos 1) ≤ℤ (high +ℤ low)
    → IsCanonical (bounds_from first last longest high low least)
unfolding sum_of
bounds-canonical first last longest high low least limit within lasts reaches begins far ends
    between =
    let a = split (pos 1 -ℤ pos (2 * first)) in
    let b = split high in
    let c = split low in
    let d = split (pos (2 * last + 1)) in
    let e = split least in
    let f = split (pos (2 * longest + 1)) in
    record {
      room = record {
        begin_loop = omega (arith, ints);
        end_loop = omega (arith, ints);
        dur_loop = omega (arith, ints);
      };
      closed = record {
        begin_low = omega (arith, ints);
        begin_high = omega (arith, ints);
        end_low = omega (arith, ints);
        end_high = omega (arith, ints);
        dur_low = omega (arith, ints);
        dur_high = omega (arith, ints);
      };
      framed = record {
        starts = omega (arith, ints);
        ends = omega (arith, ints);
        lasts = omega (arith, ints);
      };
    }
