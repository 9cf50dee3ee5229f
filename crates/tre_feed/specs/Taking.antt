-- Bits that are taken by their places.
use Rattle.std.specs.Prelude.{◌≡◌, ℕ, ◌+◌, ◌*◌, ◌<◌, List, [], ◌∷◌, length, slice_index}
use Rattle.std.specs.Int.{bit_at}

-- The bits that stand at these places: bit i is the one at the i-th place.
abbrev pub bits_at : List ℕ → ℕ → ℕ
bits_at [] bits = 0
bits_at (place ∷ places) bits = bit_at bits place + 2 * bits_at places bits

-- The places are 0, 1 and so on.
pub record AreInOrder (places : List ℕ) : Type 0 where
  pub each : (number : ℕ) → number < length places → slice_index places number ≡ number
