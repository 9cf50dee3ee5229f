-- Which numbers some bytes may have, told by the slot that they fall into.
use Rattle.std.specs.Prelude.{◌≡◌, ℕ, ◌+◌, ◌*◌, ◌/◌, ◌%◌, ◌-◌, ◌<◌, List, [], length, slice_index_or}
use Rattle.std.specs.Int.{bit_at}

-- The slot of some bytes: by how many they are, and by the last one, the one before it, and the
-- middle one.
unfoldable pub slot_of : List ℕ → ℕ
slot_of bytes =
    (slice_index_or bytes (length bytes - 1) 0 + 10 * slice_index_or bytes (length bytes - 2) 0
    + 4 * slice_index_or bytes (length bytes / 2) 0 + 13 * (length bytes % 64)) % 64

-- the last byte; 0 where there is none
unfoldable pub last_of : List ℕ → ℕ
last_of bytes = slice_index_or bytes (length bytes - 1) 0

-- Bytes may have a number where its bit is set in their slot, and in that of their last byte.
abbrev pub MayBe : List ℕ → List ℕ → ℕ → Type 0
MayBe masks bytes k =
    (bit_at (slice_index_or masks (slot_of bytes) 0) k ≡ 1)
    × (bit_at (slice_index_or masks (64 + last_of bytes) 0) k ≡ 1)

-- Each of the texts may have its place as its number.
pub record AreSifted (texts : List (List ℕ)) (masks : List ℕ) : Type 0 where
  pub each : (k : ℕ) → k < length texts → MayBe masks (slice_index_or texts k []) k
