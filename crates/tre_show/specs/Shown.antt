-- Zones as they are printed.
use Rattle.std.specs.Prelude.{◌⊎◌, ℕ, ◌-◌, ◌<◌, ◌≤◌, List, [], ◌∷◌, IsTrue, is_some}
use Rattle.tre_pairs.specs.Pairs.{Pairs}
use Rattle.tre_zone.specs.Interval.{IntervalEnds, LastsWithin}
use Rattle.tre_zone.specs.Ranges.{begin_range, end_range, duration_range}
use Rattle.tre_zone.specs.declared.zone_bounds.ZoneBounds.{ZoneBounds}

-- A zone: a range of begins, one of ends, and one of durations.
pub record Shown : Type 0 where
  pub begin : IntervalEnds
  pub end : IntervalEnds
  pub duration : IntervalEnds

-- It holds the pair of the times a/n and b/n, of which the first is not after the second.
pub record ShownHolds (zone : Shown) (a b n : ℕ) : Type 0 where
  pub rising : a ≤ b
  pub begin : LastsWithin zone.begin a n
  pub end : LastsWithin zone.end b n
  pub duration : LastsWithin zone.duration (b - a) n

-- One of the zones holds the pair: it lies in the three ranges of a line.
unfoldable pub LinesHold : List Shown → Pairs
LinesHold [] a b n = ⊥
LinesHold (line ∷ lines) a b n = ShownHolds line a b n ⊎ LinesHold lines a b n

-- The range ends, and each range that has the time of every pair of the zone takes it in.
pub record IsSmallest (zone : Shown) (range : IntervalEnds) (time : ℕ → ℕ → ℕ) : Type 0 where
  pub bounded : IsTrue (is_some range.high)
  pub smallest : (other : IntervalEnds)
      → ((a b n : ℕ) → 0 < n → ShownHolds zone a b n → LastsWithin other (time a b) n)
      → (d n : ℕ) → 0 < n → LastsWithin range d n → LastsWithin other d n

-- Some pair is in the zone, and each of its ranges is the smallest that its pairs allow.
pub record IsTightShown (zone : Shown) : Type 0 where
  pub some : (a : ℕ) × (b : ℕ) × (n : ℕ) × (0 < n) × ShownHolds zone a b n
  pub begin : IsSmallest zone zone.begin (λ a b. a)
  pub end : IsSmallest zone zone.end (λ a b. b)
  pub duration : IsSmallest zone zone.duration (λ a b. b - a)

-- the bounds of a zone, as they are printed
abbrev pub shown : ZoneBounds → Shown
shown zone = record {
  begin = begin_range zone;
  end = end_range zone;
  duration = duration_range zone;
}
