-- Runs and their strips.
use Rattle.std.specs.Prelude.{◌≡◌, ℕ, ◌*◌, ◌<◌, ◌≤◌, List}
use Rattle.tre_pairs.specs.Pairs.{Pairs}
use Rattle.tre_strips.specs.Bar.{BarHolds}
use Rattle.tre_strips.specs.Profile.{IsProfile, BarsFit}
use Rattle.tre_strips.specs.declared.bar.Bar.{Bar}

-- A run: over all times strictly between two whole ones the bars are the profile of M, and over no
-- longer stretch of time that takes these in.
pub record IsRunOfBars (M : Pairs) (bars : List Bar) (from until : ℕ) : Type 0 where
  pub rising : from < until
  pub profile : IsProfile M bars from until
  pub longest : (start end : ℕ) → start ≤ from → until ≤ end → IsProfile M bars start end
      → (start ≡ from) × (end ≡ until)

-- The begins of the strip of a run: the times from its first to its last, of which it takes these
-- two where its bars fit them.
pub record IsInStrip (M : Pairs) (bars : List Bar) (from until a n : ℕ) : Type 0 where
  pub low : from * n ≤ a
  pub high : a ≤ until * n
  pub first : a ≡ from * n → BarsFit M bars from
  pub last : a ≡ until * n → BarsFit M bars until

pub record IsAlone (M : Pairs) (time : ℕ) : Type 0 where
  pub none : (bars : List Bar) (from until : ℕ) → IsRunOfBars M bars from until
      → IsInStrip M bars from until time 1 → ⊥

-- The pairs that begin in the strip of a run and end on one of its bars.
pub record IsInBlock (M : Pairs) (bars : List Bar) (from until : ℕ) (bar : Bar) (a b n : ℕ)
    : Type 0 where
  pub begins : IsInStrip M bars from until a n
  pub ends : BarHolds bar a b n

pub record IsInColumn (time : ℕ) (bar : Bar) (a b n : ℕ) : Type 0 where
  pub begins : a ≡ time * n
  pub ends : BarHolds bar a b n
