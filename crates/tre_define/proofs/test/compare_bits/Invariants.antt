use Rattle.std.proofs.Common.{◌≡◌, take}
use Rattle.tre_define.proofs.test.compare_bits.Given as goal

-- the bits before this place are the same
abbrev pub invariant-loop-place : goal.invariant-loop-place
invariant-loop-place l = take l.place l.bits ≡ take l.place l.others
