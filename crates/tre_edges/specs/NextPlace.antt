-- The next place with a bit.
use Rattle.std.specs.Prelude.{◌≡◌, ◌≢◌, ℕ, Bool, true, false, ◌≤◌, ◌<◌, List}
use Rattle.tre_trace.specs.Planes.{bit_in}

-- the bit that says this truth
abbrev pub bit_for : Bool → ℕ
bit_for true = 1
bit_for false = 0

-- The place is the first one, from `from` on, whose bit says this truth; `count` where there is
-- none before it.
pub record IsNextPlace (words : List ℕ) (truth : Bool) (from count place : ℕ) : Type 0 where
  pub late : from ≤ place
  pub within : place ≤ count
  pub between : (other : ℕ) → from ≤ other → other < place → bit_in words other ≢ bit_for truth
  pub there : place < count → bit_in words place ≡ bit_for truth
