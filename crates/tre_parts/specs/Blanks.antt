-- What one more separator beside another does to a reading.
use Rattle.std.specs.Prelude.{◌≡◌, ℕ, ◌+◌, nat_le, [], Ok, if◌then◌else◌}
use Rattle.std.specs.Option.{option_map}
use Rattle.tre_parts.specs.Format.{Format}
use Rattle.tre_parts.specs.declared.spot.Spot.{Spot}
use Rattle.tre_trace.specs.Reading.{Recording}

-- A part of no bytes says nothing, and a fault is told with the offset of its part.
pub record SkipsBlanks {State : Type 0} (format : Format State) : Type 0 where
  pub blank : (state : State) → format.says state []
      ≡ Ok (record { stretches = []; state = state })
  pub place : (spot : Spot) → format.place spot ≡ spot.offset

-- an offset behind one more byte, which stands in front of this one
abbrev pub moved : ℕ → ℕ → ℕ
moved from offset = if nat_le from offset then offset + 1 else offset

-- the same, with the offset of the fault moved
abbrev pub moved_recording : ℕ → Recording → Recording
moved_recording from reading = record {
  stretches = reading.stretches;
  last = reading.last;
  fault = option_map (λ fault. record { place = moved from fault.place; kind = fault.kind })
      reading.fault;
}
