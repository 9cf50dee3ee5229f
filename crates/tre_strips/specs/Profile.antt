-- Profiles: the bars of a set of pairs over its begins.
use Rattle.std.specs.Prelude.{◌≡◌, ℕ, ◌*◌, ◌<◌, ◌↔◌, ◌⊎◌, List}
use Rattle.tre_pairs.specs.Pairs.{Pairs}
use Rattle.tre_strips.specs.Bar.{BarsHold, AreFilled, RiseFrom}
use Rattle.tre_strips.specs.declared.bar.Bar.{Bar}

-- The bars are the profile of M over the begin a/n: they rise, and together are the ends b/n of the
-- pairs of M that begin there.
pub record IsProfileAt (M : Pairs) (bars : List Bar) (a n : ℕ) : Type 0 where
  pub rising : RiseFrom 0 bars a n
  pub exact : (b : ℕ) → BarsHold bars a b n ↔ M a b n

-- The time a/n is in the column: the one time `from` where that is `until` too, and else each time
-- strictly between the two.
abbrev pub IsIn : ℕ → ℕ → ℕ → ℕ → Type 0
IsIn from until a n =
    ((from ≡ until) × (a ≡ from * n)) ⊎ ((from * n < a) × (a < until * n))

-- The bars are the profile of M over every time of the column.
pub record IsProfile (M : Pairs) (bars : List Bar) (from until : ℕ) : Type 0 where
  pub each : (a n : ℕ) → 0 < n → IsIn from until a n → IsProfileAt M bars a n

-- The bars fit the time: over it none is empty, and together they are the ends of the pairs of M
-- that begin there. They may touch.
pub record BarsFit (M : Pairs) (bars : List Bar) (time : ℕ) : Type 0 where
  pub filled : (n : ℕ) → 0 < n → AreFilled bars (time * n) n
  pub exact : (b n : ℕ) → 0 < n → BarsHold bars (time * n) b n ↔ M (time * n) b n
