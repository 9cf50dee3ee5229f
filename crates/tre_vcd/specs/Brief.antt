-- What is kept of identifiers by their first bytes.
use Rattle.std.specs.Prelude.{◌≡◌, ◌↔◌, ◌==◌, ℕ, ◌+◌, List, [], ◌∷◌, Option, Some, slice_index_or, if◌then◌else◌}
use Rattle.std.specs.Int.{bit_at}
use Rattle.std.specs.Option.{option_map}
use Rattle.tre_vcd.specs.declared.brief.Brief.{Brief}

-- the first byte; 0 where there is none
abbrev pub first_slot : List ℕ → ℕ
first_slot [] = 0
first_slot (first ∷ rest) = first

-- the second byte, counted from 2, of two bytes; 1 of one byte, and 0 of others
abbrev pub second_slot : List ℕ → ℕ
second_slot [] = 0
second_slot (only ∷ []) = 1
second_slot (first ∷ second ∷ []) = 2 + second
second_slot (first ∷ second ∷ third ∷ rest) = 0

-- Bit k of a slot is set just where the identifier with number k has that slot.
pub record TellsSlots (slot_of : List ℕ → ℕ) (identified : ℕ → Option (List ℕ)) (masks : List ℕ) :
    Type
    0 where
  pub each : (slot k : ℕ) → (bit_at (slice_index_or masks slot 0) k ≡ 1)
      ↔ (option_map slot_of (identified k) ≡ Some slot)

-- Both tables tell of the identifiers with these numbers.
pub record IsBriefOf (identified : ℕ → Option (List ℕ)) (brief : Brief) : Type 0 where
  pub firsts : TellsSlots first_slot identified brief.firsts
  pub seconds : TellsSlots second_slot identified brief.seconds

-- the identifiers, once a number has this one
abbrev pub and_told : (ℕ → Option (List ℕ)) → ℕ → List ℕ → ℕ → Option (List ℕ)
and_told identified number identifier k =
    if k == number then Some identifier else identified k
