-- Runs: stretches of time, none of which touches another.
use Rattle.std.specs.Prelude.{◌≡◌, ℕ, ◌+◌, ◌<◌, ◌≤◌, List, [], ◌∷◌}
use Rattle.tre_zone.specs.Zone.{span_of}
use Rattle.tre_zone.specs.declared.zone_bounds.ZoneBounds.{ZoneBounds}

-- The zone is that of a run from `begin` to `end`, `[begin,end) (begin,end] (0,end-begin]`, which
-- begins at `earliest` or later and lasts some time.
pub record IsRun (earliest : ℕ) (zone : ZoneBounds) (begin end : ℕ) : Type 0 where
  pub starts : earliest ≤ begin
  pub lasts : begin < end
  pub span : zone ≡ span_of begin end

-- The zones are those of runs in the order of time. The first begins at `earliest` or later, and
-- each other at least a tick after the one before it has ended: so no two of them make one longer
-- run.
unfoldable pub AreRuns : ℕ → List ZoneBounds → Type 0
AreRuns earliest [] = Unit {0}
AreRuns earliest (zone ∷ zones) = (begin : ℕ) × (end : ℕ) × IsRun earliest zone begin end
    × AreRuns (end + 1) zones
