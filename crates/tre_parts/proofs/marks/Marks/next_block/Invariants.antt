use Rattle.std.proofs.Common.{◌+◌, ◌-◌, ◌≤◌, length}
use Rattle.tre_parts.specs.Bytes.{NoneBetween}
use Rattle.tre_parts.proofs.marks.Marks.next_block.Given as goal

-- none stands before this place
abbrev pub invariant-loop-block : goal.invariant-loop-block
invariant-loop-block g l = record {
  behind : l.fn.self.block + 16 ≤ l.block;
  within : l.block ≤ length l.bytes;
  before : NoneBetween g.C.ByteClass.has l.bytes (l.fn.self.block + 16) l.block;
}

abbrev pub decreases-loop-block : goal.decreases-loop-block
decreases-loop-block g l = length l.bytes - l.block
