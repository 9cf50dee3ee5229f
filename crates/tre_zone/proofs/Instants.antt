-- The bounds of the instants between two times.
use Rattle.std.proofs.Common.{ℕ, ◌+◌, ◌*◌, ◌<◌, ◌≤◌, ◌↔◌, refl, arith, pos, ◌-ℤ◌}
use Rattle.std.proofs.lemmas.Int.{ints}
use Rattle.tre_pairs.specs.declared.TheConstants.{TIME_MAX}
use Rattle.tre_zone.specs.Zone.{ZoneHolds, IsCanonical, IsInstantBetween, instants_of}
use Rattle.tre_zone.proofs.CanonicalBounds.{bounds-canonical}
use Rattle.tre_zone.proofs.Bounds.{Meets-at_most, Meets-at_least}

pub instants-canonical : (from to : ℕ) → from ≤ to → to ≤ TIME_MAX
    → IsCanonical (instants_of from to)
unfolding instants_of
instants-canonical from to rising limit =
    bounds-canonical from to 0 (pos (2 * to + 1)) (pos 1 -ℤ pos (2 * from))
    (pos 1) limit (omega arith) (omega (arith, ints)) (omega (arith, ints))
    (omega (arith, ints)) (omega (arith, ints)) (omega (arith, ints)) (omega (arith, ints))

pub instants-holds : (from to : ℕ) → (a b n : ℕ) → 0 < n
    → ZoneHolds (instants_of from to) a b n ↔ IsInstantBetween from to a b n
unfolding instants_of
instants-holds from to a b n some =
    let begin_low = Meets-at_least (pos 1 -ℤ pos (2 * from)) from refl 0 a n in
    let begin_high = Meets-at_most (pos (2 * to + 1)) to refl a 0 n in
    let end_low = Meets-at_least (pos 1 -ℤ pos (2 * from)) from refl 0 b n in
    let end_high = Meets-at_most (pos (2 * to + 1)) to refl b 0 n in
    let dur_low = Meets-at_most (pos 1) 0 refl a b n in
    let dur_high = Meets-at_most (pos 1) 0 refl b a n in (
      (λ z.
          let low = begin_low.0 z.begin_low in
          let high = end_high.0 z.end_high in
          let le = dur_low.0 z.dur_low in
          let ge = dur_high.0 z.dur_high in
          record { starts = omega arith; same = omega arith; ends = omega arith }),
      (λ s.
          let starts = s.starts in
          let same = s.same in
          let ends = s.ends in
          record {
            begin_low = begin_low.1 (omega arith);
            begin_high = begin_high.1 (omega arith);
            end_low = end_low.1 (omega arith);
            end_high = end_high.1 (omega arith);
            dur_low = dur_low.1 (omega arith);
            dur_high = dur_high.1 (omega arith);
          }),
    )
