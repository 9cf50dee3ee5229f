-- The bounds of what began at one time and ends up to another.
use Rattle.std.proofs.Common.{◌≡◌, ℕ, ◌+◌, ◌-◌, ◌*◌, ◌<◌, ◌≤◌, ◌↔◌, refl, ap, arith, pos, ◌-ℤ◌}
use Rattle.std.proofs.lemmas.Int.{ints}
use Rattle.tre_pairs.specs.declared.TheConstants.{TIME_MAX}
use Rattle.tre_zone.specs.Zone.{ZoneHolds, IsCanonical, IsOnward, onward_of}
use Rattle.tre_zone.proofs.CanonicalBounds.{bounds-canonical}
use Rattle.tre_zone.proofs.Bounds.{Meets-at_most, Meets-at_least}

pub onward-canonical : (from to : ℕ) → from ≤ to → to ≤ TIME_MAX → IsCanonical (onward_of from to)
unfolding onward_of
onward-canonical from to rising limit =
    bounds-canonical from to (to - from) (pos (2 * from + 1)) (pos 1 -ℤ pos (2 * from))
    (pos 1) limit (omega arith) (omega (arith, ints)) (omega (arith, ints))
    (omega (arith, ints)) (omega (arith, ints)) (omega (arith, ints)) (omega (arith, ints))

whole : (to from : ℕ) → from ≤ to → (to - from) + from ≡ to
whole to from rising = omega arith

pub onward-holds : (from to : ℕ) → from ≤ to → (a b n : ℕ) → 0 < n
    → ZoneHolds (onward_of from to) a b n ↔ IsOnward from to a b n
unfolding onward_of
onward-holds from to rising a b n some =
    let begin_low = Meets-at_least (pos 1 -ℤ pos (2 * from)) from refl 0 a n in
    let begin_high = Meets-at_most (pos (2 * from + 1)) from refl a 0 n in
    let end_low = Meets-at_least (pos 1 -ℤ pos (2 * from)) from refl 0 b n in
    let end_high = Meets-at_most (pos (2 * to + 1)) to refl b 0 n in
    let dur_low = Meets-at_most (pos 1) 0 refl a b n in
    let dur_high = Meets-at_most (pos (2 * (to - from) + 1)) (to - from) refl b a n in
    let width : (to - from) * n + from * n ≡ to * n =
    omega (arith, ap (λ (t : ℕ). t * n) (whole to from rising)) in (
      (λ z.
          let low = begin_low.0 z.begin_low in
          let at = begin_high.0 z.begin_high in
          let high = end_high.0 z.end_high in
          let le = dur_low.0 z.dur_low in
          record { starts = omega arith; rising = omega arith; ends = omega arith }),
      (λ s.
          let starts = s.starts in
          let le = s.rising in
          let ends = s.ends in
          record {
            begin_low = begin_low.1 (omega arith);
            begin_high = begin_high.1 (omega arith);
            end_low = end_low.1 (omega arith);
            end_high = end_high.1 (omega arith);
            dur_low = dur_low.1 (omega arith);
            dur_high = dur_high.1 (omega arith);
          }),
    )
