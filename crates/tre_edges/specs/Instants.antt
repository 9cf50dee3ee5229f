-- Single instants, each as one zone.
use Rattle.std.specs.Prelude.{◌≡◌, ℕ, ◌+◌, ◌≤◌, List, [], ◌∷◌}
use Rattle.tre_zone.specs.Zone.{instants_of}
use Rattle.tre_zone.specs.declared.zone_bounds.ZoneBounds.{ZoneBounds}

-- The zone is that of one instant, `[t,t] [t,t] [0,0]`, which is at `earliest` or later.
pub record IsInstantAt (earliest : ℕ) (zone : ZoneBounds) (t : ℕ) : Type 0 where
  pub late : earliest ≤ t
  pub instant : zone ≡ instants_of t t

-- The zones are those of single instants in the order of time, no two the same. The first is at
-- `earliest` or later.
unfoldable pub AreInstants : ℕ → List ZoneBounds → Type 0
AreInstants earliest [] = Unit {0}
AreInstants earliest (zone ∷ zones) = (t : ℕ) × IsInstantAt earliest zone t
    × AreInstants (t + 1) zones
