use Rattle.std.proofs.Common.{◌-◌, ◌≤◌, length}
use Rattle.tre_parts.specs.Bytes.{NoneBetween}
use Rattle.tre_parts.proofs.byte_class.first_from.Given as goal

-- none stands before this place
abbrev pub invariant-loop-place : goal.invariant-loop-place
invariant-loop-place g l = record {
  behind : l.from ≤ l.place;
  within : l.place ≤ length l.bytes;
  before : NoneBetween g.C.ByteClass.has l.bytes l.from l.place;
}

abbrev pub decreases-loop-place : goal.decreases-loop-place
decreases-loop-place g l = length l.bytes - l.place
