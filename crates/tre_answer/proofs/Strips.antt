-- Strips of pairs that agree.
use Rattle.std.proofs.Common.{ℕ, ◌<◌, ◌↔◌, List}
use Rattle.tre_pairs.specs.Pairs.{Pairs}
use Rattle.tre_strips.specs.Strips.{AreStrips}
use Rattle.tre_strips.proofs.Answering.{IsStripZone-pairs}
use Rattle.tre_zone.specs.declared.zone_bounds.ZoneBounds.{ZoneBounds}

-- pairs that agree have the same strips
pub AreStrips-pairs : (M N : Pairs) → ((a b n : ℕ) → 0 < n → M a b n ↔ N a b n)
    → (zones : List ZoneBounds) → AreStrips M zones → AreStrips N zones
AreStrips-pairs M N same zones are =
    let back : (a b n : ℕ) → 0 < n → N a b n ↔ M a b n =
    λ a b n some. ((same a b n some).1, (same a b n some).0) in
    record {
      exact = λ zone.
          let own = are.exact zone in (
            (λ has. let is = own.0 has in (is.0, IsStripZone-pairs M N same back zone is.1)),
            (λ is. own.1 (is.0, IsStripZone-pairs N M back same zone is.1)),
          );
    }
