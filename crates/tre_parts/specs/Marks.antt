-- Bytes of a class among sixteen.
use Rattle.std.specs.Prelude.{◌≡◌, ℕ, ◌+◌, ◌^◌, ◌<◌, ◌≤◌, Bool, List, length, map}
use Rattle.std.specs.Simd.Lanes.{mask_l, chunk}
use Rattle.tre_parts.specs.declared.marks.Marks.{Marks}

-- The place is one of the sixteen or just behind them, and the bits tell which of them are of the
-- class.
pub record AreMarks (has : ℕ → Bool) (bytes : List ℕ) (from : ℕ) (marks : Marks) : Type 0 where
  pub behind : marks.block ≤ from
  pub near : from ≤ marks.block + 16
  pub within : marks.block + 16 ≤ length bytes
  pub fits : marks.bits < 2 ^ 64
  pub bits : marks.bits ≡ mask_l (map has (chunk marks.block 16 bytes))
