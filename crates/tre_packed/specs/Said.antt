-- The events of segments, where there are some.
use Rattle.std.specs.Prelude.{◌≡◌, ℕ, ◌+◌, ◌^◌, max, nat_eq, ◌<◌, List, [], ◌∷◌, length, if◌then◌else◌}
use Rattle.std.specs.Int.{bit_at}
use Rattle.tre_packed.specs.declared.said.Said.{Said}
use Rattle.tre_trace.specs.Planes.{bit_in, words_for}
use Rattle.tre_trace.specs.declared.segment.Segment.{Segment}

-- The segment has 64 bits of values, and as many of events.
abbrev pub HasBits : Segment → Type 0
HasBits segment = (segment.val < 2 ^ 64) × (segment.ev < 2 ^ 64)

-- what the segments say, of which the first is at the place
abbrev pub said_from : ℕ → List Segment → List Said
said_from place [] = []
said_from place (segment ∷ rest) =
    if nat_eq segment.ev 0 then said_from (place + 1) rest
    else record { place = place; events = segment.ev } ∷ said_from (place + 1) rest

-- whether the event of this number is said of the place
abbrev pub said_bit : List Said → ℕ → ℕ → ℕ
said_bit [] place number = 0
said_bit (one ∷ rest) place number =
    if nat_eq one.place place then max (bit_at one.events number) (said_bit rest place number)
    else said_bit rest place number

-- The bits of the words say of which of so many places the event of this number is said.
pub record IsToldPlane (number : ℕ) (said : List Said) (count : ℕ) (words : List ℕ) : Type 0 where
  pub size : length words ≡ words_for count
  pub bits : (place : ℕ) → bit_in words place ≡ said_bit said place number
