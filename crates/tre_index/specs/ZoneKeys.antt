-- Keys of the rows that a zone has to do with.
use Rattle.std.specs.Prelude.{◌^◌, ℤ, pos, neg_ℤ, ◌-ℤ◌, List, [], ◌∷◌}
use Rattle.tre_zone.specs.declared.zone_bounds.ZoneBounds.{ZoneBounds}

-- Below each key that a zone can have.
abbrev pub lowest : ℤ
lowest = neg_ℤ (pos (2 ^ 50))

-- The key of the zones that can follow a zone: their begins meet its ends.
unfoldable pub after_of : ZoneBounds → List ℤ
after_of zone =
    (pos 1 -ℤ zone.end_high) ∷ (pos 1 -ℤ zone.end_low)
    ∷ lowest ∷ lowest ∷ lowest ∷ lowest ∷ lowest ∷ lowest ∷ []

-- The key of the zones that a zone can follow: their ends meet its begins.
unfoldable pub before_of : ZoneBounds → List ℤ
before_of zone =
    lowest ∷ lowest ∷ (pos 1 -ℤ zone.begin_high) ∷ (pos 1 -ℤ zone.begin_low)
    ∷ lowest ∷ lowest ∷ lowest ∷ lowest ∷ []

-- The key of the zones that can share a pair with a zone: all six ranges meet.
unfoldable pub meeting_of : ZoneBounds → List ℤ
meeting_of zone =
    (pos 1 -ℤ zone.begin_high) ∷ (pos 1 -ℤ zone.begin_low)
    ∷ (pos 1 -ℤ zone.end_high) ∷ (pos 1 -ℤ zone.end_low)
    ∷ (pos 1 -ℤ zone.dur_high) ∷ (pos 1 -ℤ zone.dur_low) ∷ pos 0 ∷ pos 0 ∷ []
