use Rattle.std.proofs.Common.{◌≡◌, ◌^◌, min, take}
use Rattle.std.specs.Str.Parse.{digits_value_after}
use Rattle.tre_define.proofs.test.read_bits.Given as goal

-- the number is that of the bits so far
abbrev pub invariant-loop-bit : goal.invariant-loop-bit
invariant-loop-bit l =
    l.number ≡ min (digits_value_after 2 0 (take l.bit-index l.bits)) (2 ^ 64)
